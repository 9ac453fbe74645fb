-- The first item of a name, by the place of the name.
use Rattle.std.proofs.Common.{◌≡◌, ℕ, ◌+◌, Bool, cond, List, [], ◌∷◌, length, map, not, Option, Some, None, refl, sym, ◌∙◌, ap, inl, inr}
use Rattle.std.specs.Prelude.{position, slice_get, nat_lt, find, option_and_then}
use Rattle.std.specs.List.{position_or_len}
use Rattle.std.proofs.lemmas.List.{length-map}
use Rattle.std.proofs.lemmas.List.Folds.{find_at}
use Rattle.std.proofs.lemmas.Bool.{cases_lt, cond_below, cond_above}
use Rattle.std.proofs.lemmas.Option.{slice_get_past}
use Rattle.ir_tree.specs.Names.{same}

module _ {X Y : Type 0} (p : Y → Bool) (f : X → Y) where
  place_map : (xs : List X) → position_or_len p (map f xs) ≡ position_or_len (λ x. p (f x)) xs
  place_map [] = refl
  place_map (x ∷ xs) = ap (λ (n : ℕ). cond (not (p (f x))) (1 + n) 0) (place_map xs)

  pub position_map : (xs : List X) → position p (map f xs) ≡ position (λ x. p (f x)) xs
  position_map xs = λ i. cond (nat_lt (place_map xs i) (length-map xs f i)) (Some (place_map xs i)) None

-- a place below the length, if there is one, and the item there
within : {X : Type 0} (xs : List X) (k : ℕ) → option_and_then (slice_get xs) (cond (nat_lt k (length xs)) (Some k) None) ≡ slice_get xs k
within {X} xs k = elim (cases_lt k (length xs)) [
  | inl l ↦
      ap (λ (o : Option ℕ). option_and_then (slice_get xs) o) (sym (cond_below {X = Option ℕ} k (length xs) (Some k) None l))
  | inr g ↦
      ap (λ (o : Option ℕ). option_and_then (slice_get xs) o) (sym (cond_above {X = Option ℕ} k (length xs) (Some k) None None g refl))
      ∙ sym (slice_get_past xs k g)
]

-- the first item of a name is the one at the first place of the name
pub named_at : {X : Type 0} (name_of : X → List ℕ) (xs : List X) (name : List ℕ) (found : Option ℕ) → found ≡ position (same name) (map name_of xs) → find (λ x. same name (name_of x)) xs ≡ option_and_then (slice_get xs) found
named_at name_of xs name found is =
    find_at (λ x. same name (name_of x)) xs
    ∙ sym (within xs (position_or_len (λ x. same name (name_of x)) xs))
    ∙ sym (ap (λ (o : Option ℕ). option_and_then (slice_get xs) o) (is ∙ position_map (same name) name_of xs))
