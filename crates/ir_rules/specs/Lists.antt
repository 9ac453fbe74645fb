-- Membership in a list, and how often a name stands in one.
use Rattle.std.specs.Prelude.{◌≡◌, ℕ, Bool, true, not, ◌&&◌, ◌==◌, ◌⊎◌, List, [], ◌∷◌, count_by}
use Rattle.std.specs.List.{list_any}
use Rattle.ir_tree.specs.Names.{same}

abbrev pub Among : {X : Type 0} → X → List X → Type 0
Among v [] = ⊥
Among v (w ∷ ws) = (v ≡ w) ⊎ Among v ws

abbrev pub is_among : List ℕ → List (List ℕ) → Bool
is_among name names = list_any (same name) names

-- how often a name stands in a list
abbrev pub times : List ℕ → List (List ℕ) → ℕ
times name names = count_by (same name) names

-- the name stands nowhere in the list
abbrev pub is_new : List ℕ → List (List ℕ) → Bool
is_new name names = times name names == 0

-- each of these names is new among those and the ones before it
abbrev pub are_new : List (List ℕ) → List (List ℕ) → Bool
are_new names [] = true
are_new names (x ∷ xs) = is_new x names && are_new (x ∷ names) xs

-- the values are apart from one another
abbrev pub are_apart : List ℕ → Bool
are_apart [] = true
are_apart (v ∷ vs) = not (list_any (λ w. v == w) vs) && are_apart vs
