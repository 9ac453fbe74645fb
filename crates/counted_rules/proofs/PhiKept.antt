-- The entries of phis: as many for each block as positions of it that lead to the phi's block, where new blocks stand between.
use Rattle.std.proofs.Common.{◌≡◌, ℕ, suc, ◌+◌, ◌≤◌, ◌⊎◌, inl, inr, Bool, true, false, cond, List, [], ◌∷◌, ◌++◌, length, map, Option, Some, None, slice_get, refl, sym, ap, subst, ◌∙◌, arith, zero-add}
use Rattle.std.proofs.lemmas.List.{length-append, map-append}
use Rattle.std.proofs.lemmas.List.Sums.{sum_by-append, sum_by-cons}
use Rattle.count_plan.specs.Calls.{increments}
use Rattle.count_plan.specs.Counted.{counted_blocks, counted_pieces, new_blocks, put_on}
use Rattle.count_plan.specs.Ways.{led, led_to, new_at, renamed, renaming, renamings, renamings_from}
use Rattle.count_plan.specs.declared.plan.BlockPlan.{BlockPlan}
use Rattle.count_plan.specs.declared.plan.FunctionPlan.{FunctionPlan}
use Rattle.count_plan.specs.declared.plan.NewBlock.{NewBlock}
use Rattle.counted_rules.proofs.Listed.{Name, from_each, one, same_is, same_self, times_append, times_cons}
use Rattle.counted_rules.proofs.Ways.{IsWay, led_all, made_of, plan_at, successors_led}
use Rattle.ir_rules.specs.Lists.{Among, times}
use Rattle.ir_rules.specs.PhiEntries.{positions, tails}
use Rattle.ir_tree.specs.Blocks.{block_with}
use Rattle.ir_tree.specs.Names.{same}
use Rattle.ir_tree.specs.Operands.{Entries}
use Rattle.ir_tree.specs.Phis.{rename_first}
use Rattle.ir_tree.specs.Successors.{successors}
use Rattle.ir_tree.specs.declared.types.Block.{Block}
use Rattle.ir_tree.specs.declared.types.Operand.{Operand}
use Rattle.ir_tree.specs.declared.types.Term.TheVariants.{Br}
use Rattle.spec_lists.specs.Each.{each}

abbrev pub Renamings : Type 0
Renamings = List (Name × Name)

-- the blocks that are renamed, and the new ones
abbrev pub olds : Renamings → List Name
olds rs = map (λ (r : Name × Name). r.0) rs

abbrev pub news : Renamings → List Name
news rs = map (λ (r : Name × Name). r.1) rs

olds_append : (n : Name) (rs ss : Renamings) → times n (olds (rs ++ ss)) ≡ times n (olds rs) + times n (olds ss)
olds_append n rs ss = ap (λ (ns : List Name). times n ns) (map-append (λ (r : Name × Name). r.0) rs ss) ∙ times_append n (olds rs) (olds ss)

news_append : (n : Name) (rs ss : Renamings) → times n (news (rs ++ ss)) ≡ times n (news rs) + times n (news ss)
news_append n rs ss = ap (λ (ns : List Name). times n ns) (map-append (λ (r : Name × Name). r.1) rs ss) ∙ times_append n (news rs) (news ss)

-- ---- entries under a renaming

rename_times : (a c n : Name) (es : Entries) → 1 ≤ times a (tails es) → times n (tails (rename_first a c es)) + one n a ≡ times n (tails es) + one n c
rename_times a c n [] some = absurd (omega (arith, some))
rename_times a c n (e ∷ es) some = by (same a e.1) refl (λ more. rename_times a c n es more)
  where
    by : (b : Bool) → same a e.1 ≡ b → (1 ≤ times a (tails es) → times n (tails (rename_first a c es)) + one n a ≡ times n (tails es) + one n c) → times n (tails (cond b ((e.0, c) ∷ es) (e ∷ rename_first a c es))) + one n a ≡ times n (e.1 ∷ tails es) + one n c
    by true q rest =
        let is : one n a ≡ one n e.1 = ap (λ (x : Name). one n x) (same_is a e.1 q) in
        omega (arith, is, times_cons n c (tails es), times_cons n e.1 (tails es))
    by false q rest =
        let none : one a e.1 ≡ 0 = ap (λ (b : Bool). cond {A = ℕ} b 1 0) q in
        let later = rest (omega (arith, some, none, times_cons a e.1 (tails es))) in
        omega (arith, later, times_cons n e.1 (tails (rename_first a c es)), times_cons n e.1 (tails es))

one_at_self : (n : Name) → one n n ≡ 1
one_at_self n = ap (λ (b : Bool). cond {A = ℕ} b 1 0) (same_self n)

renamed_times : (rs : Renamings) (es : Entries) → ((n : Name) → times n (olds rs) ≤ times n (tails es)) → (n : Name) → times n (tails (renamed rs es)) + times n (olds rs) ≡ times n (tails es) + times n (news rs)
renamed_times [] es room n = omega arith
renamed_times (r ∷ rs) es room n =
    let here : times r.0 (r.0 ∷ olds rs) ≤ times r.0 (tails es) = room r.0 in
    let some : 1 ≤ times r.0 (tails es) = omega (arith, here, times_cons r.0 r.0 (olds rs), one_at_self r.0) in
    let first = rename_times r.0 r.1 n es some in
    let later = renamed_times rs (rename_first r.0 r.1 es) (λ k. left k some (room k)) n in
    omega (arith, first, later, times_cons n r.0 (olds rs), times_cons n r.1 (news rs))
  where
    left : (k : Name) → 1 ≤ times r.0 (tails es) → times k (r.0 ∷ olds rs) ≤ times k (tails es) → times k (olds rs) ≤ times k (tails (rename_first r.0 r.1 es))
    left k some most = omega (arith, most, times_cons k r.0 (olds rs), rename_times r.0 r.1 k es some)

-- an entry was one before, of this block or of one that is renamed to it
pub record Origin (rs : Renamings) (es : Entries) (v : Operand) (n : Name) : Type 0 where
  pub from : Name
  pub stood : Among (v, from) es
  pub named : (from ≡ n) ⊎ Among (from, n) rs

rename_from : (a c : Name) (es : Entries) (v : Operand) (n : Name) → Among (v, n) (rename_first a c es) → Among (v, n) es ⊎ ((n ≡ c) × Among (v, a) es)
rename_from a c [] v n at = absurd at
rename_from a c (e ∷ es) v n at = by (same a e.1) refl at (λ h. rename_from a c es v n h)
  where
    later : Among (v, n) es ⊎ ((n ≡ c) × Among (v, a) es) → Among (v, n) (e ∷ es) ⊎ ((n ≡ c) × Among (v, a) (e ∷ es))
    later (inl h) = inl (inr h)
    later (inr h) = inr (h.0, inr h.1)

    by : (b : Bool) → same a e.1 ≡ b → Among (v, n) (cond b ((e.0, c) ∷ es) (e ∷ rename_first a c es)) → (Among (v, n) (rename_first a c es) → Among (v, n) es ⊎ ((n ≡ c) × Among (v, a) es)) → Among (v, n) (e ∷ es) ⊎ ((n ≡ c) × Among (v, a) (e ∷ es))
    by true q (inl is) rest = inr (ap (λ (d : Operand × Name). d.1) is, inl (λ i. (ap (λ (d : Operand × Name). d.0) is i, same_is a e.1 q i)))
    by true q (inr h) rest = inl (inr h)
    by false q (inl is) rest = inl (inl is)
    by false q (inr h) rest = later (rest h)

pub origin : (rs : Renamings) → ((x y z : Name) → Among (x, y) rs → Among (y, z) rs → ⊥) → (es : Entries) (v : Operand) (n : Name) → Among (v, n) (renamed rs es) → Origin rs es v n
origin [] apart es v n at = record { from = n; stood = at; named = inl refl }
origin (r ∷ rs) apart es v n at = by (origin rs (λ x y z h k. apart x y z (inr h) (inr k)) (rename_first r.0 r.1 es) v n at)
  where
    further : (a : Name) → (a ≡ n) ⊎ Among (a, n) rs → (a ≡ n) ⊎ Among (a, n) (r ∷ rs)
    further a (inl e) = inl e
    further a (inr h) = inr (inr h)

    taken : (a : Name) → a ≡ r.1 → (a ≡ n) ⊎ Among (a, n) rs → Among (v, r.0) es → Origin (r ∷ rs) es v n
    taken a is (inl e) stood = record { from = r.0; stood = stood; named = inr (inl (λ i. (r.0, (sym e ∙ is) i))) }
    taken a is (inr h) stood = absurd (apart r.0 r.1 n (inl refl) (inr (subst (λ (x : Name). Among (x, n) rs) is h)))

    split : (a : Name) → Among (v, a) es ⊎ ((a ≡ r.1) × Among (v, r.0) es) → (a ≡ n) ⊎ Among (a, n) rs → Origin (r ∷ rs) es v n
    split a (inl h) named = record { from = a; stood = h; named = further a named }
    split a (inr h) named = taken a h.0 named h.1

    by : Origin rs (rename_first r.0 r.1 es) v n → Origin (r ∷ rs) es v n
    by o = split o.from (rename_from r.0 r.1 es v o.from o.stood) o.named

-- ---- positions

positions_cons : (n l : Name) (b : Block) (bs : List Block) → positions n l (b ∷ bs) ≡ cond {A = ℕ} (same n b.label) (times l (successors b.term)) 0 + positions n l bs
positions_cons n l b bs = sum_by-cons (λ (d : Block). cond {A = ℕ} (same n d.label) (times l (successors d.term)) 0) b bs

positions_append : (n l : Name) (bs cs : List Block) → positions n l (bs ++ cs) ≡ positions n l bs + positions n l cs
positions_append n l bs cs = sum_by-append (λ (d : Block). cond {A = ℕ} (same n d.label) (times l (successors d.term)) 0) bs cs

-- a block of the name is among them
pub positioned : (n l : Name) (bs : List Block) → 1 ≤ positions n l bs → (b : Block) × Among b bs × (b.label ≡ n)
positioned n l [] h = absurd (omega (arith, h))
positioned n l (b ∷ bs) h = by (same n b.label) refl (λ k. positioned n l bs k)
  where
    by : (t : Bool) → same n b.label ≡ t → (1 ≤ positions n l bs → (c : Block) × Among c bs × (c.label ≡ n)) → (c : Block) × Among c (b ∷ bs) × (c.label ≡ n)
    by true e rest = (b, inl refl, sym (same_is n b.label e))
    by false e rest =
        let none : cond {A = ℕ} (same n b.label) (times l (successors b.term)) 0 ≡ 0 = ap (λ (t : Bool). cond {A = ℕ} t (times l (successors b.term)) 0) e in
        let r = rest (omega (arith, h, none, positions_cons n l b bs)) in
        (r.0, inr r.1, r.2)

-- ---- the ways out of a block

module _ (unit : FunctionPlan) (l a n : Name) (plan : BlockPlan) where
  abbrev of_ways : ℕ → List Name → Renamings
  of_ways p tos = each (λ q to. renaming (same l to) a (new_at plan q)) p tos

  -- no new label on these ways is l
  abbrev Apart : ℕ → List Name → Type 0
  Apart p tos = (q : ℕ) (to : Name) (new : NewBlock) → slice_get tos q ≡ Some to → new_at plan (p + q) ≡ Some new → same l new.label ≡ false

  later_apart : (p : ℕ) (to : Name) (tos : List Name) → Apart p (to ∷ tos) → Apart (p + 1) tos
  later_apart p to tos apart q t new at is = apart (suc q) t new at (ap (λ (k : ℕ). new_at plan k) (let e : p + suc q ≡ p + 1 + q = omega arith in e) ∙ is)

  one_led : (to : Name) (o : Option NewBlock) → ((new : NewBlock) → o ≡ Some new → same l new.label ≡ false) → one l (led_to o to) + length (renaming (same l to) a o) ≡ one l to
  one_led to None apart = by (same l to)
    where
      by : (t : Bool) → cond {A = ℕ} t 1 0 + length (renaming t a None) ≡ cond {A = ℕ} t 1 0
      by true = refl
      by false = refl
  one_led to (Some new) apart = by (same l to)
    where
      none : one l new.label ≡ 0
      none = ap (λ (b : Bool). cond {A = ℕ} b 1 0) (apart new refl)

      by : (t : Bool) → one l new.label + length (renaming t a (Some new)) ≡ cond {A = ℕ} t 1 0
      by true = omega (arith, none)
      by false = omega (arith, none)

  led_times : (p : ℕ) (tos : List Name) → Apart p tos → times l (led_all plan p tos) + length (of_ways p tos) ≡ times l tos
  led_times p [] apart = refl
  led_times p (to ∷ tos) apart =
      let first = one_led to (new_at plan p) (λ new e. apart 0 to new refl (ap (λ (k : ℕ). new_at plan k) (let z : p + 0 ≡ p = omega arith in z) ∙ e)) in
      let rest = led_times (p + 1) tos (later_apart p to tos apart) in
      let long = length-append (renaming (same l to) a (new_at plan p)) (of_ways (p + 1) tos) in
      omega (arith, first, rest, long, times_cons l (led_to (new_at plan p) to) (led_all plan (p + 1) tos), times_cons l to tos)

  one_put : (to : Name) (o : Option NewBlock) → positions n l (put_on unit to o) ≡ times n (news (renaming (same l to) a o))
  one_put to None = by (same l to)
    where
      by : (t : Bool) → 0 ≡ times n (news (renaming t a None))
      by true = refl
      by false = refl
  one_put to (Some new) = by (same l to) refl
    where
      few : times l (to ∷ []) ≡ one l to
      few = (let c = times_cons l to [] in omega (arith, c))

      whole : positions n l (put_on unit to (Some new)) ≡ cond {A = ℕ} (same n new.label) (one l to) 0
      whole = (let c = positions_cons n l (block_with new.label (increments unit new.counter) (Br to)) [] in let d : cond {A = ℕ} (same n new.label) (times l (to ∷ [])) 0 ≡ cond {A = ℕ} (same n new.label) (one l to) 0 = ap (λ (k : ℕ). cond {A = ℕ} (same n new.label) k 0) few in omega (arith, c, d))

      nothing : (t : Bool) → cond {A = ℕ} t 0 0 ≡ 0
      nothing true = refl
      nothing false = refl

      by : (t : Bool) → same l to ≡ t → positions n l (put_on unit to (Some new)) ≡ times n (news (renaming t a (Some new)))
      by true e =
          let is : cond {A = ℕ} (same n new.label) (one l to) 0 ≡ one n new.label = ap (λ (b : Bool). cond {A = ℕ} (same n new.label) (cond {A = ℕ} b 1 0) 0) e in
          let c = times_cons n new.label [] in
          omega (arith, whole, is, c)
      by false e =
          let is : cond {A = ℕ} (same n new.label) (one l to) 0 ≡ 0 = ap (λ (b : Bool). cond {A = ℕ} (same n new.label) (cond {A = ℕ} b 1 0) 0) e ∙ nothing (same n new.label) in
          omega (arith, whole, is)

  put_times : (p : ℕ) (tos : List Name) → positions n l (each (λ q to. put_on unit to (new_at plan q)) p tos) ≡ times n (news (of_ways p tos))
  put_times p [] = refl
  put_times p (to ∷ tos) =
      let first = one_put to (new_at plan p) in
      let rest = put_times (p + 1) tos in
      let b = positions_append n l (put_on unit to (new_at plan p)) (each (λ q t. put_on unit t (new_at plan q)) (p + 1) tos) in
      let c = news_append n (renaming (same l to) a (new_at plan p)) (of_ways (p + 1) tos) in
      omega (arith, first, rest, b, c)

  one_old : (t : Bool) (o : Option NewBlock) → times n (olds (renaming t a o)) ≡ cond {A = ℕ} (same n a) (length (renaming t a o)) 0
  one_old true (Some new) = by (same n a) refl
    where
      by : (s : Bool) → same n a ≡ s → times n (a ∷ []) ≡ cond {A = ℕ} s 1 0
      by s e = (let c = times_cons n a [] in let d : one n a ≡ cond {A = ℕ} s 1 0 = ap (λ (b : Bool). cond {A = ℕ} b 1 0) e in omega (arith, c, d))
  one_old true None = nothing (same n a)
    where
      nothing : (t : Bool) → 0 ≡ cond {A = ℕ} t 0 0
      nothing true = refl
      nothing false = refl
  one_old false o = nothing (same n a)
    where
      nothing : (t : Bool) → 0 ≡ cond {A = ℕ} t 0 0
      nothing true = refl
      nothing false = refl

  old_times : (p : ℕ) (tos : List Name) → times n (olds (of_ways p tos)) ≡ cond {A = ℕ} (same n a) (length (of_ways p tos)) 0
  old_times p [] = by (same n a)
    where
      by : (t : Bool) → 0 ≡ cond {A = ℕ} t 0 0
      by true = refl
      by false = refl
  old_times p (to ∷ tos) =
      let first = one_old (same l to) (new_at plan p) in
      let rest = old_times (p + 1) tos in
      let c = olds_append n (renaming (same l to) a (new_at plan p)) (of_ways (p + 1) tos) in
      let long = length-append (renaming (same l to) a (new_at plan p)) (of_ways (p + 1) tos) in
      by (same n a) first rest c long
    where
      by : (t : Bool) → times n (olds (renaming (same l to) a (new_at plan p))) ≡ cond {A = ℕ} t (length (renaming (same l to) a (new_at plan p))) 0 → times n (olds (of_ways (p + 1) tos)) ≡ cond {A = ℕ} t (length (of_ways (p + 1) tos)) 0 → times n (olds (of_ways p (to ∷ tos))) ≡ times n (olds (renaming (same l to) a (new_at plan p))) + times n (olds (of_ways (p + 1) tos)) → length (of_ways p (to ∷ tos)) ≡ length (renaming (same l to) a (new_at plan p)) + length (of_ways (p + 1) tos) → times n (olds (of_ways p (to ∷ tos))) ≡ cond {A = ℕ} t (length (of_ways p (to ∷ tos))) 0
      by true first rest c long = omega (arith, first, rest, c, long)
      by false first rest c long = omega (arith, first, rest, c, long)

-- ---- all blocks

module _ (unit : FunctionPlan) (bs : List Block) (l : Name) (apart : (j : ℕ) (b : Block) (p : ℕ) (to : Name) (new : NewBlock) → IsWay unit bs j b p to new → same l new.label ≡ false) where
  abbrev of_block : ℕ → Block → Renamings
  of_block j b = renamings_from l (plan_at unit bs j) b

  module _ (j : ℕ) (b : Block) (at : slice_get bs j ≡ Some b) (n : Name) where
    abbrev plan : BlockPlan
    plan = plan_at unit bs j

    led_count : times l (successors (led plan b.term)) + length (of_block j b) ≡ times l (successors b.term)
    led_count = ap (λ (ns : List Name). times l ns + length (of_block j b)) (successors_led plan b.term) ∙ led_times unit l b.label n plan 0 (successors b.term) (λ q to new here is. apart j b q to new (record { at = at; leads = here; is_new = ap (λ (k : ℕ). new_at plan k) (sym (zero-add q)) ∙ is }))

    piece_positions : positions n l (counted_pieces unit bs j b) + times n (olds (of_block j b)) ≡ cond {A = ℕ} (same n b.label) (times l (successors b.term)) 0 + times n (news (of_block j b))
    piece_positions =
        let c = positions_cons n l (made_of unit bs j b) (new_blocks unit plan b) in
        let put = put_times unit l b.label n plan 0 (successors b.term) in
        let old = old_times unit l b.label n plan 0 (successors b.term) in
        by (same n b.label) c put old
      where
        by : (t : Bool) → positions n l (counted_pieces unit bs j b) ≡ cond {A = ℕ} t (times l (successors (led plan b.term))) 0 + positions n l (new_blocks unit plan b) → positions n l (new_blocks unit plan b) ≡ times n (news (of_block j b)) → times n (olds (of_block j b)) ≡ cond {A = ℕ} t (length (of_block j b)) 0 → positions n l (counted_pieces unit bs j b) + times n (olds (of_block j b)) ≡ cond {A = ℕ} t (times l (successors b.term)) 0 + times n (news (of_block j b))
        by true c put old = omega (arith, c, put, old, led_count)
        by false c put old = omega (arith, c, put, old)

    piece_room : times n (olds (of_block j b)) ≤ cond {A = ℕ} (same n b.label) (times l (successors b.term)) 0
    piece_room = by (same n b.label) (old_times unit l b.label n plan 0 (successors b.term))
      where
        by : (t : Bool) → times n (olds (of_block j b)) ≡ cond {A = ℕ} t (length (of_block j b)) 0 → times n (olds (of_block j b)) ≤ cond {A = ℕ} t (times l (successors b.term)) 0
        by true old = omega (arith, old, led_count)
        by false old = omega (arith, old)

  -- the blocks from number k on
  all_positions : (n : Name) (k : ℕ) (xs : List Block) → ((i : ℕ) (b : Block) → slice_get xs i ≡ Some b → slice_get bs (k + i) ≡ Some b) → positions n l (each (counted_pieces unit bs) k xs) + times n (olds (each of_block k xs)) ≡ positions n l xs + times n (news (each of_block k xs))
  all_positions n k [] places = refl
  all_positions n k (b ∷ xs) places =
      let here : slice_get bs k ≡ Some b = ap (λ (i : ℕ). slice_get bs i) (let e : k ≡ k + 0 = omega arith in e) ∙ places 0 b refl in
      let first = piece_positions k b here n in
      let rest = all_positions n (k + 1) xs (λ i c at. ap (λ (q : ℕ). slice_get bs q) (let e : k + 1 + i ≡ k + suc i = omega arith in e) ∙ places (suc i) c at) in
      let a = positions_append n l (counted_pieces unit bs k b) (each (counted_pieces unit bs) (k + 1) xs) in
      let c = positions_cons n l b xs in
      let d = olds_append n (of_block k b) (each of_block (k + 1) xs) in
      let e = news_append n (of_block k b) (each of_block (k + 1) xs) in
      omega (arith, first, rest, a, c, d, e)

  all_room : (n : Name) (k : ℕ) (xs : List Block) → ((i : ℕ) (b : Block) → slice_get xs i ≡ Some b → slice_get bs (k + i) ≡ Some b) → times n (olds (each of_block k xs)) ≤ positions n l xs
  all_room n k [] places = omega arith
  all_room n k (b ∷ xs) places =
      let here : slice_get bs k ≡ Some b = ap (λ (i : ℕ). slice_get bs i) (let e : k ≡ k + 0 = omega arith in e) ∙ places 0 b refl in
      let first = piece_room k b here n in
      let rest = all_room n (k + 1) xs (λ i c at. ap (λ (q : ℕ). slice_get bs q) (let e : k + 1 + i ≡ k + suc i = omega arith in e) ∙ places (suc i) c at) in
      let c = positions_cons n l b xs in
      let d = olds_append n (of_block k b) (each of_block (k + 1) xs) in
      omega (arith, first, rest, c, d)

  -- as many entries as positions
  pub entries_match : (es : Entries) → ((n : Name) → times n (tails es) ≡ positions n l bs) → (n : Name) → times n (tails (renamed (renamings unit.blocks bs l) es)) ≡ positions n l (counted_blocks unit bs)
  entries_match es matched n =
      let places : (i : ℕ) (b : Block) → slice_get bs i ≡ Some b → slice_get bs (0 + i) ≡ Some b = λ i b at. ap (λ (k : ℕ). slice_get bs k) (zero-add i) ∙ at in
      let rs : Renamings = renamings unit.blocks bs l in
      let moved = renamed_times rs es (λ k. room k places) n in
      let all = all_positions n 0 bs places in
      omega (arith, moved, all, matched n)
    where
      room : (k : Name) → ((i : ℕ) (b : Block) → slice_get bs i ≡ Some b → slice_get bs (0 + i) ≡ Some b) → times k (olds (renamings unit.blocks bs l)) ≤ times k (tails es)
      room k places = (let r = all_room k 0 bs places in let m = matched k in omega (arith, r, m))

-- ---- what is renamed

-- a renaming is of a block with a way to l, to the label of the new block on it
pub record Renames (unit : FunctionPlan) (bs : List Block) (a c : Name) : Type 0 where
  pub number : ℕ
  pub block : Block
  pub position : ℕ
  pub to : Name
  pub put : NewBlock
  pub way : IsWay unit bs number block position to put
  pub old : a ≡ block.label
  pub label : c ≡ put.label

pub renames : (unit : FunctionPlan) (bs : List Block) (l a c : Name) → Among (a, c) (renamings unit.blocks bs l) → Renames unit bs a c
renames unit bs l a c at = by (from_each (λ j b. renamings_from l (plan_at unit bs j) b) bs (a, c) at)
  where
    one_way : (j : ℕ) (b : Block) → slice_get bs j ≡ Some b → (p : ℕ) (to : Name) → slice_get (successors b.term) p ≡ Some to → (t : Bool) (o : Option NewBlock) → new_at (plan_at unit bs j) p ≡ o → Among (a, c) (renaming t b.label o) → Renames unit bs a c
    one_way j b here p to leads true (Some new) e (inl is) = record { number = j; block = b; position = p; to = to; put = new; way = record { at = here; leads = leads; is_new = e }; old = ap (λ (r : Name × Name). r.0) is; label = ap (λ (r : Name × Name). r.1) is }
    one_way j b here p to leads true (Some new) e (inr h) = absurd h
    one_way j b here p to leads true None e h = absurd h
    one_way j b here p to leads false o e h = absurd h

    by : (j : ℕ) × (b : Block) × (slice_get bs j ≡ Some b) × Among (a, c) (renamings_from l (plan_at unit bs j) b) → Renames unit bs a c
    by (j, b, here, h) =
        let r = from_each (λ p to. renaming (same l to) b.label (new_at (plan_at unit bs j) p)) (successors b.term) (a, c) h in
        one_way j b here r.0 r.1 r.2 (same l r.1) (new_at (plan_at unit bs j) r.0) refl r.3
