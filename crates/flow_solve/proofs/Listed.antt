-- Lists by places, and the numbers among them.
use Rattle.std.proofs.Common.{◌≡◌, ℕ, zero, suc, ◌<◌, ◌⊎◌, inl, inr, List, [], ◌∷◌, length, Some, slice_get, slice_index, slice_index_or, refl, sym, arith}
use Rattle.std.proofs.lemmas.Bool.{cases_eq}
use Rattle.std.proofs.lemmas.Option.{none-some, same_Some}
use Rattle.spanning_order.specs.Lists.{Among}

pub get_within : {X : Type 0} (xs : List X) (k : ℕ) (x : X) → slice_get xs k ≡ Some x → k < length xs
get_within [] k x h = absurd (none-some x h)
get_within (y ∷ ys) zero x h = omega arith
get_within (y ∷ ys) (suc k) x h = let e : k < length ys = get_within ys k x h in omega arith

pub get_is : {X : Type 0} (xs : List X) (k : ℕ) (x d : X) → slice_get xs k ≡ Some x → slice_index_or xs k d ≡ x
get_is [] k x d h = absurd (none-some x h)
get_is (y ∷ ys) zero x d h = same_Some y x h
get_is (y ∷ ys) (suc k) x d h = get_is ys k x d h

pub get_there : {X : Type 0} (xs : List X) (k : ℕ) (d : X) → k < length xs → slice_get xs k ≡ Some (slice_index_or xs k d)
get_there [] k d h = absurd (omega arith)
get_there (y ∷ ys) zero d h = refl
get_there (y ∷ ys) (suc k) d h = get_there ys k d (omega arith)

pub among_at : (xs : List ℕ) (i : ℕ) → i < length xs → Among (slice_index xs i) xs
among_at [] i h = absurd (omega arith)
among_at (x ∷ xs) zero h = inl refl
among_at (x ∷ xs) (suc i) h = inr (among_at xs i (omega arith))

pub place_of : (v : ℕ) (xs : List ℕ) → Among v xs → (i : ℕ) × (i < length xs) × (slice_index xs i ≡ v)
place_of v [] a = absurd a
place_of v (x ∷ xs) (inl e) = (zero, omega arith, sym e)
place_of v (x ∷ xs) (inr a) = let p = place_of v xs a in (suc p.0, omega (arith, p.1), p.2)

pub among_or_not : (v : ℕ) (xs : List ℕ) → Among v xs ⊎ (Among v xs → ⊥)
among_or_not v [] = inr (λ a. a)
among_or_not v (x ∷ xs) = elim (cases_eq v x) [
  | inl e ↦ inl (inl e)
  | inr ne ↦ elim (among_or_not v xs) [ inl a ↦ inl (inr a) | inr out ↦ inr (λ a. elim a [ inl e ↦ ne e | inr b ↦ out b ]) ]
]
