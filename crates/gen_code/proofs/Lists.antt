-- The first item of a list that passes, and how many pass, one item further.
use Rattle.std.proofs.Common.{◌≡◌, ℕ, ◌+◌, ◌<◌, ◌≤◌, Bool, true, false, cond, List, [], ◌∷◌, ◌++◌, length, take, get_or, count_by, Option, None, Some, is_some, position, refl, sym, ap, ◌∙◌, arith}
use Rattle.std.proofs.lemmas.Grind.{common_steps}
use Rattle.std.proofs.lemmas.List.{length_push, length-take-le, take_more}
use Rattle.std.proofs.lemmas.List.Folds.{position_or_len_push}
use Rattle.std.proofs.lemmas.List.Sums.{count_by-le-length, prefix_len-le-length, sum_by_more}
use Rattle.gen_code.specs.Tables.{or_else}

pub or_none : (o : Option ℕ) → or_else o None ≡ o
or_none None = refl
or_none (Some n) = refl

module _ {X : Type 0} (p : X → Bool) where
  push_kept : (xs : List X) (y : X) → is_some (position p xs) ≡ true → position p (xs ++ y ∷ []) ≡ position p xs
  push_kept xs y there = grind (arith, position_or_len_push, length_push, prefix_len-le-length, common_steps)

  push_passed : (xs : List X) (y : X) → p y ≡ false → position p (xs ++ y ∷ []) ≡ position p xs
  push_passed xs y fails = grind (arith, position_or_len_push, length_push, prefix_len-le-length, common_steps)

  push_found : (xs : List X) (y : X) → p y ≡ true → is_some (position p xs) ≡ false → position p (xs ++ y ∷ []) ≡ Some (length xs)
  push_found xs y passes absent = grind (arith, position_or_len_push, length_push, prefix_len-le-length, common_steps)

  position_push : (xs : List X) (y : X) → position p (xs ++ y ∷ []) ≡ or_else (position p xs) (cond (p y) (Some (length xs)) None)
  position_push xs y = by (p y) refl (position p xs) refl
    where
      by : (b : Bool) → p y ≡ b → (o : Option ℕ) → position p xs ≡ o → position p (xs ++ y ∷ []) ≡ or_else (position p xs) (cond (p y) (Some (length xs)) None)
      by b e (Some k) q = push_kept xs y (ap is_some q) ∙ q ∙ sym (ap (λ (o : Option ℕ). or_else o (cond (p y) (Some (length xs)) None)) q)
      by true e None q = push_found xs y e (ap is_some q) ∙ sym (λ i. or_else (q i) (cond (e i) (Some (length xs)) None))
      by false e None q = push_passed xs y e ∙ q ∙ sym (λ i. or_else (q i) (cond (e i) (Some (length xs)) None))

  pub position_more : (xs : List X) (i : ℕ) (d : X) → i < length xs → position p (take (i + 1) xs) ≡ or_else (position p (take i xs)) (cond (p (get_or xs i d)) (Some i) None)
  position_more xs i d h =
      ap (position p) (take_more xs i d h) ∙ position_push (take i xs) (get_or xs i d)
      ∙ ap (λ (n : ℕ). or_else (position p (take i xs)) (cond (p (get_or xs i d)) (Some n) None)) (length-take-le i xs (omega arith))

  pub count_more : (xs : List X) (i : ℕ) (d : X) → i < length xs → count_by p (take (i + 1) xs) ≡ count_by p (take i xs) + cond {A = ℕ} (p (get_or xs i d)) 1 0
  count_more xs i d h = sum_by_more (λ (y : X). cond (p y) 1 0) xs i d h

  pub count_few : (xs : List X) (i : ℕ) → i ≤ length xs → count_by p (take i xs) ≤ i
  count_few xs i h = let a = count_by-le-length p (take i xs) in let b = length-take-le i xs h in omega (arith, a, b)
