-- Two rising lists with the same elements of each key are one.
use Rattle.std.proofs.Common.{◌≡◌, Bool, true, false, cond, List, [], ◌∷◌, map, filter, refl, sym, ap, ◌∙◌, Ordering, Less, Equal, Greater}
use Rattle.std.specs.Ordering.{is_eq, ordering_reverse}
use Rattle.std.specs.Cmp.{IsTotalOrder}
use Rattle.std.specs.List.{AllByRecursion}
use Rattle.std.specs.List.Sorted.{IsStrictlySortedBy}
use Rattle.std.proofs.lemmas.Cmp.{tied_itself}
use Rattle.std.proofs.lemmas.Map.Keys.{sorted_head, sorted_tail}

module _ {X K : Type 0} (key : X → K) (R : K → K → Ordering) (total : IsTotalOrder R) where
  abbrev pub at_key : K → List X → List X
  at_key k xs = filter (λ x. is_eq (R k (key x))) xs

  abbrev Beyond : K → List X → Type 0
  Beyond k xs = AllByRecursion (λ l. R k l ≡ Less) (map key xs)

  less_is_not_equal : (o : Ordering) → o ≡ Less → is_eq o ≡ false
  less_is_not_equal Less h = refl
  less_is_not_equal Equal h = cc
  less_is_not_equal Greater h = cc

  none_beyond : (k : K) (xs : List X) → Beyond k xs → at_key k xs ≡ []
  none_beyond k [] h = refl
  none_beyond k (x ∷ xs) h =
      ap (λ (b : Bool). cond b (x ∷ at_key k xs) (at_key k xs)) (less_is_not_equal (R k (key x)) h.0) ∙ none_beyond k xs h.1

  beyond_less : (k l : K) (xs : List X) → R k l ≡ Less → Beyond l xs → Beyond k xs
  beyond_less k l [] below h = tt
  beyond_less k l (x ∷ xs) below h = (total.trans k l (key x) below h.0, beyond_less k l xs below h.1)

  first_at : (x : X) (xs : List X) → at_key (key x) (x ∷ xs) ≡ x ∷ at_key (key x) xs
  first_at x xs = ap (λ (o : Ordering). cond (is_eq o) (x ∷ at_key (key x) xs) (at_key (key x) xs)) (tied_itself total (key x))

  -- a first element that the other list has nothing of
  nothing_first : (x : X) (xs ys : List X) → at_key (key x) (x ∷ xs) ≡ at_key (key x) ys → Beyond (key x) ys → ⊥
  nothing_first x xs ys same beyond =
      let e : x ∷ at_key (key x) xs ≡ [] = sym (first_at x xs) ∙ (same ∙ none_beyond (key x) ys beyond) in cc

  step_rest : (b : Bool) (x y : X) (us vs : List X) → x ≡ y → cond b (x ∷ us) us ≡ cond b (y ∷ vs) vs → us ≡ vs
  step_rest true x y us vs e h = cc
  step_rest false x y us vs e h = h

  rest_alike : (x y : X) (xs ys : List X) → x ≡ y → ((k : K) → at_key k (x ∷ xs) ≡ at_key k (y ∷ ys)) → (k : K) → at_key k xs ≡ at_key k ys
  rest_alike x y xs ys e same k =
      step_rest (is_eq (R k (key x))) x y (at_key k xs) (at_key k ys) e
      (same k ∙ ap (λ (z : X). cond (is_eq (R k (key z))) (y ∷ at_key k ys) (at_key k ys)) (sym e))

  by_order : (o : Ordering) (x y : X) (xs ys : List X) → R (key x) (key y) ≡ o →
      ((k : K) → at_key k (x ∷ xs) ≡ at_key k (y ∷ ys)) → Beyond (key x) xs → Beyond (key y) ys → x ≡ y
  by_order Less x y xs ys is same bx by' = absurd (nothing_first x xs (y ∷ ys) (same (key x)) (is, beyond_less (key x) (key y) ys is by'))
  by_order Equal x y xs ys is same bx by' =
      let here : at_key (key x) (y ∷ ys) ≡ y ∷ at_key (key x) ys = ap (λ (o : Ordering). cond (is_eq o) (y ∷ at_key (key x) ys) (at_key (key x) ys)) is in
      let e : x ∷ at_key (key x) xs ≡ y ∷ at_key (key x) ys = sym (first_at x xs) ∙ (same (key x) ∙ here) in cc
  by_order Greater x y xs ys is same bx by' =
      let flipped : R (key y) (key x) ≡ Less = total.antisymm (key y) (key x) ∙ ap ordering_reverse is in
      absurd (nothing_first y ys (x ∷ xs) (sym (same (key y))) (flipped, beyond_less (key y) (key x) xs flipped bx))

  pub rising_unique : (xs ys : List X) → IsStrictlySortedBy R (map key xs) → IsStrictlySortedBy R (map key ys) → ((k : K) → at_key k xs ≡ at_key k ys) → xs ≡ ys
  rising_unique [] [] sx sy same = refl
  rising_unique [] (y ∷ ys) sx sy same = let e : [] ≡ y ∷ at_key (key y) ys = same (key y) ∙ first_at y ys in cc
  rising_unique (x ∷ xs) [] sx sy same = let e : [] ≡ x ∷ at_key (key x) xs = sym (same (key x)) ∙ first_at x xs in cc
  rising_unique (x ∷ xs) (y ∷ ys) sx sy same =
      let e : x ≡ y = by_order (R (key x) (key y)) x y xs ys refl same (sorted_head R (key x) (map key xs) sx) (sorted_head R (key y) (map key ys) sy) in
      let rest : xs ≡ ys = rising_unique xs ys (sorted_tail R (key x) (map key xs) sx) (sorted_tail R (key y) (map key ys) sy) (rest_alike x y xs ys e same) in
      cc
