-- Sums over the views of a table, after one view changed, was cut in two, or took another in.
use Rattle.std.proofs.Common.{◌≡◌, ◌≢◌, ℕ, zero, suc, ◌+◌, ◌≤◌, List, [], ◌∷◌, ◌++◌, set, sum_by, sym, refl, ap, ◌∙◌, subst, ⊎_elim, arith}
use Rattle.std.proofs.lemmas.List.Sums.{sum_by-cons, sum_by_push}
use mathlib.Core.Option.{some, some-injective, some-ne-none}
use lib.ListN.{get_elem?}
use Rattle.atomic_table.proofs.Lists.{at_set, at_snoc, set_else}

module _ {V : Type 0} where
  pub sum_set : (f : V → ℕ) (xs : List V) (i : ℕ) (v w : V) → get_elem? xs i ≡ some v → sum_by f (set xs i w) + f v ≡ sum_by f xs + f w
  sum_set f [] i v w e = absurd (some-ne-none v (sym e))
  sum_set f (x ∷ xs) zero v w e =
      let a : f x ≡ f v = ap f (some-injective x v e) in
      let l = sum_by-cons f w xs in
      let r = sum_by-cons f x xs in
      omega arith
  sum_set f (x ∷ xs) (suc i) v w e =
      let h = sum_set f xs i v w e in
      let l = sum_by-cons f x (set xs i w) in
      let r = sum_by-cons f x xs in
      omega arith

  pub sum_same : (f : V → ℕ) (xs : List V) (i : ℕ) (v w : V) → get_elem? xs i ≡ some v → f w ≡ f v → sum_by f (set xs i w) ≡ sum_by f xs
  sum_same f xs i v w e same = let h = sum_set f xs i v w e in omega arith

  pub sum_up : (f : V → ℕ) (xs : List V) (i k : ℕ) (v w : V) → get_elem? xs i ≡ some v → f w ≡ f v + k → sum_by f (set xs i w) ≡ sum_by f xs + k
  sum_up f xs i k v w e up = let h = sum_set f xs i v w e in omega arith

  pub sum_le : (f : V → ℕ) (xs : List V) (i : ℕ) (v w : V) → get_elem? xs i ≡ some v → f v ≤ f w → sum_by f xs ≤ sum_by f (set xs i w)
  sum_le f xs i v w e le = let h = sum_set f xs i v w e in omega arith

  pub sum_split : (f : V → ℕ) (xs : List V) (i : ℕ) (v left right : V) → get_elem? xs i ≡ some v → f left + f right ≡ f v → sum_by f (set xs i left ++ right ∷ []) ≡ sum_by f xs
  sum_split f xs i v left right e whole = let h = sum_set f xs i v left e in let p = sum_by_push f (set xs i left) right in omega arith

  pub sum_join : (f : V → ℕ) (xs : List V) (i j : ℕ) (v w both spent : V) → get_elem? xs i ≡ some v → get_elem? (set xs i both) j ≡ some w → f both + f spent ≡ f v + f w → sum_by f (set (set xs i both) j spent) ≡ sum_by f xs
  sum_join f xs i j v w both spent e e' whole = let h = sum_set f xs i v both e in let k = sum_set f (set xs i both) j w spent e' in omega arith

  pub part_le : (f : V → ℕ) (xs : List V) (i : ℕ) (v : V) → get_elem? xs i ≡ some v → f v ≤ sum_by f xs
  part_le f [] i v e = absurd (some-ne-none v (sym e))
  part_le f (x ∷ xs) zero v e = let a : f x ≡ f v = ap f (some-injective x v e) in let r = sum_by-cons f x xs in omega arith
  part_le f (x ∷ xs) (suc i) v e = let h = part_le f xs i v e in let r = sum_by-cons f x xs in omega arith

  pub sum_pointwise : (f g : V → ℕ) (xs : List V) → ((i : ℕ) (v : V) → get_elem? xs i ≡ some v → f v ≤ g v) → sum_by f xs ≤ sum_by g xs
  sum_pointwise f g [] h = omega arith
  sum_pointwise f g (x ∷ xs) h =
      let here : f x ≤ g x = h 0 x refl in
      let there : sum_by f xs ≤ sum_by g xs = sum_pointwise f g xs (λ i v e. h (suc i) v e) in
      let l = sum_by-cons f x xs in
      let r = sum_by-cons g x xs in
      omega arith

  nothing : (shares f : V → ℕ) (xs : List V) → sum_by shares xs ≡ 0 → ((i : ℕ) (v : V) → get_elem? xs i ≡ some v → shares v ≡ 0 → f v ≡ 0) → sum_by f xs ≡ 0
  nothing shares f [] none idle = refl
  nothing shares f (x ∷ xs) none idle =
      let l = sum_by-cons shares x xs in
      let r = sum_by-cons f x xs in
      let here : f x ≡ 0 = idle 0 x refl (omega arith) in
      let there : sum_by f xs ≡ 0 = nothing shares f xs (omega arith) (λ i v e. idle (suc i) v e) in
      omega arith

  -- where one view has all shares, and a view without shares has done nothing, a sum over the views is that one's
  pub all_mine : (shares f : V → ℕ) (xs : List V) (i : ℕ) (v : V) → get_elem? xs i ≡ some v → sum_by shares xs ≡ shares v → ((j : ℕ) (u : V) → get_elem? xs j ≡ some u → shares u ≡ 0 → f u ≡ 0) → sum_by f xs ≡ f v
  all_mine shares f [] i v e all idle = absurd (some-ne-none v (sym e))
  all_mine shares f (x ∷ xs) zero v e all idle =
      let same : f x ≡ f v = ap f (some-injective x v e) in
      let as_many : shares x ≡ shares v = ap shares (some-injective x v e) in
      let l = sum_by-cons shares x xs in
      let r = sum_by-cons f x xs in
      let rest : sum_by f xs ≡ 0 = nothing shares f xs (omega arith) (λ j u at. idle (suc j) u at) in
      omega arith
  all_mine shares f (x ∷ xs) (suc i) v e all idle =
      let l = sum_by-cons shares x xs in
      let r = sum_by-cons f x xs in
      let mine = part_le shares xs i v e in
      let here : f x ≡ 0 = idle 0 x refl (omega arith) in
      let rest : sum_by f xs ≡ f v = all_mine shares f xs i v e (omega arith) (λ j u at. idle (suc j) u at) in
      omega arith

  -- what holds of each view, after one changed, was cut in two, or took another in
  pub each_set : (P : ℕ → V → Type 0) (xs : List V) (i : ℕ) (w : V) → ((j : ℕ) (u : V) → get_elem? xs j ≡ some u → P j u) → P i w → (j : ℕ) (u : V) → get_elem? (set xs i w) j ≡ some u → P j u
  each_set P xs i w others mine j u e =
      ⊎_elim
      (λ (t : (j ≡ i) × (w ≡ u)). subst (λ (y : ℕ × V). P y.0 y.1) (λ k. (sym t.0 k, t.1 k)) mine)
      (λ (t : (j ≢ i) × (get_elem? xs j ≡ some u)). others j u t.1)
      (at_set xs i j w u e)

  pub each_push : (P : V → Type 0) (xs : List V) (w : V) → ((j : ℕ) (u : V) → get_elem? xs j ≡ some u → P u) → P w → (j : ℕ) (u : V) → get_elem? (xs ++ w ∷ []) j ≡ some u → P u
  each_push P xs w others mine j u e = ⊎_elim (λ at. others j u at) (λ (same : w ≡ u). subst P same mine) (at_snoc xs w u j e)

  -- the second view of a join stands where it stood before
  pub other_at : (xs : List V) (i j : ℕ) (v w : V) → ¬ (j ≡ i) → get_elem? (set xs i v) j ≡ some w → get_elem? xs j ≡ some w
  other_at xs i j v w apart e = sym (set_else xs i j v apart) ∙ e

  pub two_le : (f : V → ℕ) (xs : List V) (i j : ℕ) (v w : V) → i ≢ j → get_elem? xs i ≡ some v → get_elem? xs j ≡ some w → f v + f w ≤ sum_by f xs
  two_le f [] i j v w ne e e' = absurd (some-ne-none v (sym e))
  two_le f (x ∷ xs) zero zero v w ne e e' = absurd (ne refl)
  two_le f (x ∷ xs) zero (suc j) v w ne e e' = let a : f x ≡ f v = ap f (some-injective x v e) in let r = sum_by-cons f x xs in let h = part_le f xs j w e' in omega arith
  two_le f (x ∷ xs) (suc i) zero v w ne e e' = let a : f x ≡ f w = ap f (some-injective x w e') in let r = sum_by-cons f x xs in let h = part_le f xs i v e in omega arith
  two_le f (x ∷ xs) (suc i) (suc j) v w ne e e' = let r = sum_by-cons f x xs in let h = two_le f xs i j v w (λ z. ne (ap suc z)) e e' in omega arith
