-- Numbers that stand in a list.
use Rattle.std.specs.Prelude.{◌≡◌, ℕ, ◌==◌, Bool, false, ◌||◌, ◌⊎◌, List, [], ◌∷◌}

abbrev pub Among : ℕ → List ℕ → Type 0
Among v [] = ⊥
Among v (w ∷ ws) = (v ≡ w) ⊎ Among v ws

-- the same as a test
abbrev pub among : ℕ → List ℕ → Bool
among v [] = false
among v (w ∷ ws) = v == w || among v ws
