-- Names, their places in a list, and the results among the registers of a function.
use Rattle.std.proofs.Common.{◌≡◌, ℕ, zero, suc, ◌+◌, ◌<◌, ◌≤◌, Bool, true, false, cond, List, [], ◌∷◌, ◌++◌, length, map, take, drop, Option, Some, None, refl, sym, ◌∙◌, ap, subst, inl, inr, arith}
use Rattle.std.specs.Prelude.{slice_get, position, unwrap_or, nat_lt}
use Rattle.std.specs.List.{position_or_len}
use Rattle.std.proofs.lemmas.List.Recursion.{is_position_or_len}
use Rattle.std.proofs.lemmas.Bool.{cases_lt, cond_below, cond_above}
use Rattle.std.specs.Option.{option_map}
use Rattle.std.specs.List.{flat_map, cons_option}
use Rattle.std.proofs.lemmas.Slice.Eq.{bytes_eq-Decides}
use Rattle.ir_tree.specs.Blocks.{labels, block_named}
use Rattle.ir_tree.specs.Names.{same}
use Rattle.ir_tree.specs.Operands.{result_name, result_names}
use Rattle.ir_tree.specs.Phis.{phi_count, leading_phis, behind_phis}
use Rattle.ir_tree.specs.declared.types.Instr.{Instr}
use Rattle.ir_tree.specs.declared.types.Block.{Block}
use Rattle.ir_code.specs.Names.{number_of}

-- the first place of a name, and the number of names where it is not among them
abbrev pub place_of : List (List ℕ) → List ℕ → ℕ
place_of [] x = 0
place_of (n ∷ ns) x = cond (same x n) 0 (suc (place_of ns x))

pub same_true : (x y : List ℕ) → same x y ≡ true → x ≡ y
same_true x y = (bytes_eq-Decides x y).0

pub same_self : (x : List ℕ) → same x x ≡ true
same_self x = (bytes_eq-Decides x x).1 refl

-- the name is among these
abbrev pub Among : List (List ℕ) → List ℕ → Type 0
Among names x = place_of names x < length names

apart_at : (n x d : List ℕ) (ns : List (List ℕ)) → (place_of ns x ≡ place_of ns d → Among ns d → x ≡ d) → (p q : Bool) → same x n ≡ p → same d n ≡ q → cond p 0 (suc (place_of ns x)) ≡ cond q 0 (suc (place_of ns d)) → cond q 0 (suc (place_of ns d)) < suc (length ns) → x ≡ d
apart_at n x d ns rec true true ex ed e h = same_true x n ex ∙ sym (same_true d n ed)
apart_at n x d ns rec true false ex ed e h = absurd (omega arith)
apart_at n x d ns rec false true ex ed e h = absurd (omega arith)
apart_at n x d ns rec false false ex ed e h = rec (omega arith) (omega arith)

-- two names with one place are one name
pub place_apart : (names : List (List ℕ)) (x d : List ℕ) → place_of names x ≡ place_of names d → Among names d → x ≡ d
place_apart [] x d e h = absurd (omega arith)
place_apart (n ∷ ns) x d e h = apart_at n x d ns (place_apart ns x d) (same x n) (same d n) refl refl e h

among_at : (ns : List (List ℕ)) (x : List ℕ) (p : Bool) → Among ns x → cond p 0 (suc (place_of ns x)) < suc (length ns)
among_at ns x true h = omega arith
among_at ns x false h = omega arith

pub among_behind : (n : List ℕ) (ns : List (List ℕ)) (x : List ℕ) → Among ns x → Among (n ∷ ns) x
among_behind n ns x h = among_at ns x (same x n) h

pub among_head : (x : List ℕ) (ns : List (List ℕ)) → Among (x ∷ ns) x
among_head x ns =
    let P : Bool → Type 0 = λ b. cond b 0 (suc (place_of ns x)) < suc (length ns) in
    subst P (sym (same_self x)) (let h : 0 < suc (length ns) = omega arith in h)

among_first_at : (ns ys : List (List ℕ)) (x : List ℕ) (p : Bool) → (Among ns x → Among (ns ++ ys) x) → cond p 0 (suc (place_of ns x)) < suc (length ns) → cond p 0 (suc (place_of (ns ++ ys) x)) < suc (length (ns ++ ys))
among_first_at ns ys x true rec h = omega arith
among_first_at ns ys x false rec h =
    let inner : Among (ns ++ ys) x = rec (omega arith) in omega arith

pub among_first : (xs ys : List (List ℕ)) (x : List ℕ) → Among xs x → Among (xs ++ ys) x
among_first [] ys x h = absurd (omega arith)
among_first (n ∷ ns) ys x h = among_first_at ns ys x (same x n) (among_first ns ys x) h

pub among_last : (xs ys : List (List ℕ)) (x : List ℕ) → Among ys x → Among (xs ++ ys) x
among_last [] ys x h = h
among_last (n ∷ ns) ys x h = among_behind n (ns ++ ys) x (among_last ns ys x h)

among_option : (o : Option (List ℕ)) (ns : List (List ℕ)) (x : List ℕ) → Among ns x → Among (cons_option o ns) x
among_option None ns x h = h
among_option (Some n) ns x h = among_behind n ns x h

-- the result of an instruction of a list is among the list's results
pub among_results : (is : List Instr) (p : ℕ) (i : Instr) (rest : List Instr) (x : List ℕ) → drop p is ≡ i ∷ rest → result_name i ≡ Some x → Among (result_names is) x
among_results [] zero i rest x e r = cc
among_results [] (suc p) i rest x e r = cc
among_results (j ∷ js) zero i rest x e r =
    let head : j ≡ i = cc in
    let named : result_name j ≡ Some x = ap result_name head ∙ r in
    let P : Option (List ℕ) → Type 0 = λ o. Among (cons_option o (result_names js)) x in
    subst P (sym named) (among_head x (result_names js))
among_results (j ∷ js) (suc p) i rest x e r =
    among_option (result_name j) (result_names js) x (among_results js p i rest x e r)

among_block_at : (b c : Block) (bs : List Block) (o : Option Block) (x : List ℕ) (p : Bool) → (o ≡ Some c → Among (result_names c.instrs) x → Among (flat_map (λ (d : Block). result_names d.instrs) bs) x) → cond p (Some b) o ≡ Some c → Among (result_names c.instrs) x → Among (result_names b.instrs ++ flat_map (λ (d : Block). result_names d.instrs) bs) x
among_block_at b c bs o x true rec e h =
    let found : b ≡ c = cc in
    let P : Block → Type 0 = λ d. Among (result_names d.instrs ++ flat_map (λ (d : Block). result_names d.instrs) bs) x in
    subst P (sym found) (among_first (result_names c.instrs) (flat_map (λ (d : Block). result_names d.instrs) bs) x h)
among_block_at b c bs o x false rec e h =
    among_last (result_names b.instrs) (flat_map (λ (d : Block). result_names d.instrs) bs) x (rec e h)

-- the results of a block that is found are among those of all blocks
pub among_block : (bs : List Block) (l : List ℕ) (c : Block) (x : List ℕ) → block_named bs l ≡ Some c → Among (result_names c.instrs) x → Among (flat_map (λ (b : Block). result_names b.instrs) bs) x
among_block [] l c x e h = cc
among_block (b ∷ bs) l c x e h =
    among_block_at b c bs (block_named bs l) x (same l b.label) (among_block bs l c x) e h

module _ {A : Type 0} (g : Block → A) where
  found_at : (b : Block) (bs : List Block) (l : List ℕ) (p : Bool) → slice_get (map g bs) (place_of (labels bs) l) ≡ option_map g (block_named bs l) → slice_get (g b ∷ map g bs) (cond p 0 (suc (place_of (labels bs) l))) ≡ option_map g (cond p (Some b) (block_named bs l))
  found_at b bs l true rec = refl
  found_at b bs l false rec = rec

  -- what is made of a block stands at the place of the block's label
  pub found : (bs : List Block) (l : List ℕ) → slice_get (map g bs) (place_of (labels bs) l) ≡ option_map g (block_named bs l)
  found [] l = refl
  found (b ∷ bs) l = found_at b bs l (same l b.label) (found bs l)

place_below : (n x : List ℕ) (ns : List (List ℕ)) (b : Bool) → place_of ns x ≤ length ns → cond b 0 (suc (place_of ns x)) ≤ suc (length ns)
place_below n x ns true h = omega arith
place_below n x ns false h = omega arith

place_bound : (names : List (List ℕ)) (x : List ℕ) → place_of names x ≤ length names
place_bound [] x = omega arith
place_bound (n ∷ ns) x = place_below n x ns (same x n) (place_bound ns x)

place_step : (b : Bool) (n : ℕ) → cond b 0 (suc n) ≡ cond b 0 (1 + n)
place_step true n = refl
place_step false n = omega arith

place_is_position : (names : List (List ℕ)) (x : List ℕ) → place_of names x ≡ position_or_len (same x) names
place_is_position names x =
    is_position_or_len (λ ns. place_of ns x) (same x) refl (λ n ns. place_step (same x n) (place_of ns x)) names

at_position : (a n : ℕ) → a ≤ n → unwrap_or (cond (nat_lt a n) (Some a) None) n ≡ a
at_position a n h = elim (cases_lt a n) [
  | inl l ↦ ap (λ (o : Option ℕ). unwrap_or o n) (sym (cond_below {X = Option ℕ} a n (Some a) None l))
  | inr g ↦
      let e : n ≡ a = omega arith in
      ap (λ (o : Option ℕ). unwrap_or o n) (sym (cond_above {X = Option ℕ} a n (Some a) None None g refl)) ∙ e
]

-- the place of a name is its first position, or the number of names
position_is : (names : List (List ℕ)) (x : List ℕ) → unwrap_or (position (same x) names) (length names) ≡ place_of names x
position_is names x =
    let p = place_is_position names x in
    at_position (position_or_len (same x) names) (length names) (subst (λ k. k ≤ length names) p (place_bound names x)) ∙ sym p

-- a name that is among these has a first place
pub place_among : (names : List (List ℕ)) (x : List ℕ) → Among names x → position (same x) names ≡ Some (place_of names x)
place_among names x h =
    let p = place_is_position names x in
    let below : position_or_len (same x) names < length names = subst (λ k. k < length names) p h in
    sym (cond_below {X = Option ℕ} (position_or_len (same x) names) (length names) (Some (position_or_len (same x) names)) None below) ∙ ap (λ k. Some k) (sym p)

-- numbers by place are those of the definition
pub placed : (names : List (List ℕ)) → ◌≡◌ {A = List ℕ → ℕ} (number_of names) (place_of names)
placed names = λ i x. position_is names x i

block_at_if : (b : Block) (bs : List Block) (l : List ℕ) (p : Bool) → slice_get bs (place_of (labels bs) l) ≡ block_named bs l → slice_get (b ∷ bs) (cond p 0 (suc (place_of (labels bs) l))) ≡ cond p (Some b) (block_named bs l)
block_at_if b bs l true rec = refl
block_at_if b bs l false rec = rec

-- a block that is found stands at the place of the label, and has it
pub block_at : (bs : List Block) (l : List ℕ) → slice_get bs (place_of (labels bs) l) ≡ block_named bs l
block_at [] l = refl
block_at (b ∷ bs) l = block_at_if b bs l (same l b.label) (block_at bs l)

named_if : (b c : Block) (l : List ℕ) (o : Option Block) (p : Bool) → same l b.label ≡ p → (o ≡ Some c → l ≡ c.label) → cond p (Some b) o ≡ Some c → l ≡ c.label
named_if b c l o true s rec e = same_true l b.label s ∙ ap (λ (d : Block). d.label) (let q : b ≡ c = cc in q)
named_if b c l o false s rec e = rec e

pub named_label : (bs : List Block) (l : List ℕ) (c : Block) → block_named bs l ≡ Some c → l ≡ c.label
named_label [] l c e = cc
named_label (b ∷ bs) l c e =
    named_if b c l (block_named bs l) (same l b.label) refl (named_label bs l c) e

among_drop : (n : ℕ) (is : List Instr) (x : List ℕ) → Among (result_names (drop n is)) x → Among (result_names is) x
among_drop zero [] x h = h
among_drop zero (i ∷ is) x h = h
among_drop (suc n) [] x h = h
among_drop (suc n) (i ∷ is) x h = among_option (result_name i) (result_names is) x (among_drop n is x h)

-- what stands behind the phis is among all
pub among_behind_phis : (is : List Instr) (x : List ℕ) → Among (result_names (behind_phis is)) x → Among (result_names is) x
among_behind_phis is x h = among_drop (phi_count is) is x h

-- the results of these instructions are among the names
abbrev pub AllAmong : List (List ℕ) → List Instr → Type 0
AllAmong names [] = Unit {0}
AllAmong names (i ∷ is) = ((x : List ℕ) → result_name i ≡ Some x → Among names x) × AllAmong names is

first_among : (i : Instr) (is : List Instr) (x : List ℕ) → result_name i ≡ Some x → Among (result_names (i ∷ is)) x
first_among i is x e =
    let P : Option (List ℕ) → Type 0 = λ o. Among (cons_option o (result_names is)) x in
    subst P (sym e) (among_head x (result_names is))

all_taken : (names : List (List ℕ)) (n : ℕ) (is : List Instr) → ((x : List ℕ) → Among (result_names is) x → Among names x) → AllAmong names (take n is)
all_taken names zero [] up = tt
all_taken names zero (i ∷ is) up = tt
all_taken names (suc n) [] up = tt
all_taken names (suc n) (i ∷ is) up = (
  λ x e. up x (first_among i is x e),
  all_taken names n is (λ x h. up x (among_option (result_name i) (result_names is) x h)),
)

pub phis_among : (names : List (List ℕ)) (is : List Instr) → ((x : List ℕ) → Among (result_names is) x → Among names x) → AllAmong names (leading_phis is)
phis_among names is up = all_taken names (phi_count is) is up
