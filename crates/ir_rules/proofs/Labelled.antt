-- Blocks by their labels and by their numbers, where labels are distinct.
use Rattle.std.proofs.Common.{◌≡◌, ℕ, zero, suc, ◌+◌, ◌<◌, ◌≤◌, Bool, true, false, cond, not, nat_lt, List, [], ◌∷◌, length, position, Option, None, Some, slice_get, refl, sym, ap, ◌∙◌, arith, inl, inr, ◌⊎◌}
use Rattle.std.specs.List.{flat_map, position_or_len}
use Rattle.std.specs.Option.{option_map}
use Rattle.std.proofs.lemmas.Bool.{cases_lt, le-ltb, lt-ltb}
use Rattle.std.proofs.lemmas.Option.{none-some, same_Some, slice_get-map}
use Rattle.ir_rules.proofs.Counts.{Name, one, one_self, times_append, times_cons}
use Rattle.ir_rules.proofs.Members.{among_at, is_same, same_is}
use Rattle.ir_rules.specs.Lists.{Among, times}
use Rattle.ir_rules.specs.Scopes.{block_names, names, param_names}
use Rattle.ir_tree.specs.Blocks.{block_place, labels}
use Rattle.ir_tree.specs.Names.{same}
use Rattle.ir_tree.specs.Operands.{result_names}
use Rattle.ir_tree.specs.declared.types.Block.{Block}
use Rattle.ir_tree.specs.declared.types.Function.{Function}

-- ---- the first place of a name

raised : Option ℕ → Option ℕ
raised o = option_map suc o

position_later : (n len : ℕ) → cond {A = Option ℕ} (nat_lt (1 + n) (suc len)) (Some (1 + n)) None ≡ option_map suc (cond {A = Option ℕ} (nat_lt n len) (Some n) None)
position_later n len = by (cases_lt n len)
  where
    by : (n < len) ⊎ (len ≤ n) → cond {A = Option ℕ} (nat_lt (1 + n) (suc len)) (Some (1 + n)) None ≡ option_map suc (cond {A = Option ℕ} (nat_lt n len) (Some n) None)
    by (inl h) =
        let next : 1 + n ≡ suc n = omega arith in
        ap (λ (b : Bool). cond {A = Option ℕ} b (Some (1 + n)) None) (lt-ltb (1 + n) (suc len) (omega (arith, h))) ∙ (ap (λ (k : ℕ). Some k) next ∙ ap (λ (b : Bool). option_map suc (cond {A = Option ℕ} b (Some n) None)) (sym (lt-ltb n len h)))
    by (inr h) = ap (λ (b : Bool). cond {A = Option ℕ} b (Some (1 + n)) None) (le-ltb (1 + n) (suc len) (omega (arith, h))) ∙ ap (λ (b : Bool). option_map suc (cond {A = Option ℕ} b (Some n) None)) (sym (le-ltb n len h))

pub position_here : (l x : Name) (xs : List Name) → same l x ≡ true → position (same l) (x ∷ xs) ≡ Some 0
position_here l x xs h =
    let none_before : position_or_len (same l) (x ∷ xs) ≡ 0 = ap (λ (b : Bool). cond {A = ℕ} (not b) (1 + position_or_len (same l) xs) 0) h in
    let first : nat_lt 0 (length (x ∷ xs)) ≡ true = lt-ltb 0 (length (x ∷ xs)) (omega arith) in
    ap (λ (k : ℕ). cond {A = Option ℕ} (nat_lt k (length (x ∷ xs))) (Some k) None) none_before ∙ ap (λ (b : Bool). cond {A = Option ℕ} b (Some 0) None) first

pub position_behind : (l x : Name) (xs : List Name) → same l x ≡ false → position (same l) (x ∷ xs) ≡ option_map suc (position (same l) xs)
position_behind l x xs h =
    let further : position_or_len (same l) (x ∷ xs) ≡ 1 + position_or_len (same l) xs = ap (λ (b : Bool). cond {A = ℕ} (not b) (1 + position_or_len (same l) xs) 0) h in
    ap (λ (k : ℕ). cond {A = Option ℕ} (nat_lt k (length (x ∷ xs))) (Some k) None) further ∙ position_later (position_or_len (same l) xs) (length xs)

some_raised : (o : Option ℕ) (a : ℕ) → option_map suc o ≡ Some a → (b : ℕ) × (o ≡ Some b) × (a ≡ suc b)
some_raised None a h = absurd (none-some a h)
some_raised (Some b) a h = (b, refl, sym (same_Some (suc b) a h))

-- the name stands at its place
pub at_position : (l : Name) (xs : List Name) (a : ℕ) → position (same l) xs ≡ Some a → slice_get xs a ≡ Some l
at_position l [] a h = absurd (none-some a h)
at_position l (x ∷ xs) a h = by (same l x) refl (λ b k. at_position l xs b k)
  where
    by : (t : Bool) → same l x ≡ t → ((b : ℕ) → position (same l) xs ≡ Some b → slice_get xs b ≡ Some l) → slice_get (x ∷ xs) a ≡ Some l
    by true e rest =
        let is : 0 ≡ a = same_Some 0 a (sym (position_here l x xs e) ∙ h) in
        ap (λ (k : ℕ). slice_get (x ∷ xs) k) (sym is) ∙ ap Some (sym (same_is l x e))
    by false e rest =
        let found = some_raised (position (same l) xs) a (sym (position_behind l x xs e) ∙ h) in
        ap (λ (k : ℕ). slice_get (x ∷ xs) k) found.2 ∙ rest found.0 found.1

-- a member has a place
pub has_position : (l : Name) (xs : List Name) → Among l xs → (a : ℕ) × (position (same l) xs ≡ Some a)
has_position l [] at = absurd at
has_position l (x ∷ xs) (inl e) = (0, position_here l x xs (is_same l x e))
has_position l (x ∷ xs) (inr at) = by (same l x) refl (has_position l xs at)
  where
    by : (t : Bool) → same l x ≡ t → (a : ℕ) × (position (same l) xs ≡ Some a) → (a : ℕ) × (position (same l) (x ∷ xs) ≡ Some a)
    by true e rest = (0, position_here l x xs e)
    by false e rest = (suc rest.0, position_behind l x xs e ∙ ap (λ (o : Option ℕ). option_map suc o) rest.1)

pub stands_often : (l : Name) (xs : List Name) (a : ℕ) → slice_get xs a ≡ Some l → 1 ≤ times l xs
stands_often l [] a h = absurd (none-some l h)
stands_often l (x ∷ xs) zero h =
    let is : x ≡ l = same_Some x l h in
    let here : one l x ≡ 1 = ap (λ (q : Name). one l q) is ∙ one_self l in
    omega (arith, here, times_cons l x xs)
stands_often l (x ∷ xs) (suc a) h = omega (arith, stands_often l xs a h, times_cons l x xs)

-- where a name stands once its place is the only one
pub position_only : (l : Name) (xs : List Name) (a : ℕ) → times l xs ≤ 1 → slice_get xs a ≡ Some l → position (same l) xs ≡ Some a
position_only l [] a few h = absurd (none-some l h)
position_only l (x ∷ xs) zero few h = position_here l x xs (is_same l x (sym (same_Some x l h)))
position_only l (x ∷ xs) (suc a) few h = by (same l x) refl (λ k. position_only l xs a k h)
  where
    by : (t : Bool) → same l x ≡ t → (times l xs ≤ 1 → position (same l) xs ≡ Some a) → position (same l) (x ∷ xs) ≡ Some (suc a)
    by true e rest =
        let here : one l x ≡ 1 = ap (λ (b : Bool). cond {A = ℕ} b 1 0) e in
        absurd (omega (arith, here, few, times_cons l x xs, stands_often l xs a h))
    by false e rest = position_behind l x xs e ∙ ap (λ (o : Option ℕ). option_map suc o) (rest (omega (arith, few, times_cons l x xs)))

-- ---- blocks

some_mapped : {X Y : Type 0} (g : X → Y) (o : Option X) (y : Y) → option_map g o ≡ Some y → (x : X) × (o ≡ Some x) × (g x ≡ y)
some_mapped g None y h = absurd (none-some y h)
some_mapped g (Some x) y h = (x, refl, same_Some (g x) y h)

pub block_at_label : (blocks : List Block) (l : Name) (a : ℕ) → block_place blocks l ≡ Some a → (x : Block) × (slice_get blocks a ≡ Some x) × (x.label ≡ l)
block_at_label blocks l a h = some_mapped (λ (b : Block). b.label) (slice_get blocks a) l (sym (slice_get-map (λ (b : Block). b.label) blocks a) ∙ at_position l (labels blocks) a h)

-- labels are names of the function
labels_few : (n : Name) (blocks : List Block) → times n (labels blocks) ≤ times n (flat_map block_names blocks)
labels_few n [] = omega arith
labels_few n (b ∷ bs) = omega (arith, labels_few n bs, times_cons n b.label (labels bs), times_cons n b.label (result_names b.instrs), times_append n (block_names b) (flat_map block_names bs))

pub labels_once : (f : Function) → ((n : Name) → times n (names f) ≤ 1) → (n : Name) → times n (labels f.blocks) ≤ 1
labels_once f once n = let most : times n (names f) ≤ 1 = once n in omega (arith, most, labels_few n f.blocks, times_append n (param_names f) (flat_map block_names f.blocks))

module _ (blocks : List Block) (once : (n : Name) → times n (labels blocks) ≤ 1) where
  pub label_place : (a : ℕ) (x : Block) → slice_get blocks a ≡ Some x → block_place blocks x.label ≡ Some a
  label_place a x at = position_only x.label (labels blocks) a (once x.label) (slice_get-map (λ (b : Block). b.label) blocks a ∙ ap (λ (o : Option Block). option_map (λ (b : Block). b.label) o) at)

  pub only_block : (x : Block) (l : Name) (a : ℕ) → Among x blocks → x.label ≡ l → block_place blocks l ≡ Some a → slice_get blocks a ≡ Some x
  only_block x l a among is at =
      let there = among_at blocks x among in
      let same_place : there.0 ≡ a = same_Some there.0 a (sym (label_place there.0 x there.1) ∙ (ap (λ (n : Name). block_place blocks n) is ∙ at)) in
      ap (λ (k : ℕ). slice_get blocks k) (sym same_place) ∙ there.1
