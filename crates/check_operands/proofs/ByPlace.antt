-- A list that is read item by item, each by its place.
use Rattle.std.proofs.Common.{◌≡◌, ℕ, zero, suc, ◌+◌, Bool, true, false, ◌&&◌, List, [], ◌∷◌, take, Option, slice_get, refl, sym, ap, ◌∙◌, add-one}
use Rattle.std.specs.List.{list_all}
use Rattle.ir_tree.specs.Operands.{listed}

and_assoc : (a b c : Bool) → (a && (b && c)) ≡ ((a && b) && c)
and_assoc true b c = refl
and_assoc false b c = refl

module _ {A : Type 0} (test : A → Bool) where
  taken : (xs : List A) (i : ℕ) → list_all test (take (suc i) xs) ≡ (list_all test (take i xs) && list_all test (listed (slice_get xs i)))
  taken [] zero = refl
  taken [] (suc i) = refl
  taken (x ∷ xs) zero = refl
  taken (x ∷ xs) (suc i) = ap (λ (b : Bool). test x && b) (taken xs i) ∙ and_assoc (test x) (list_all test (take i xs)) (list_all test (listed (slice_get xs i)))

  -- the test of all items so far and of the next
  pub one_more : (xs : List A) (i : ℕ) (o : Option A) (before here now : Bool) → o ≡ slice_get xs i → before ≡ list_all test (take i xs) → here ≡ list_all test (listed o) → now ≡ (before && here) → now ≡ list_all test (take (i + 1) xs)
  one_more xs i o before here now is so_far next put =
      put ∙ ((λ j. so_far j && (next ∙ ap (λ (p : Option A). list_all test (listed p)) is) j) ∙ (sym (taken xs i) ∙ ap (λ (n : ℕ). list_all test (take n xs)) (sym (add-one i))))
