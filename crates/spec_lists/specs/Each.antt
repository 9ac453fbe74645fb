-- What is made of the items of a list in order, each with its number.
use Rattle.std.specs.Prelude.{ℕ, ◌+◌, Bool, cond, List, [], ◌∷◌, ◌++◌, Option, None, Some}

-- what is made of all items, each with its number, counted from n
abbrev pub each : {X Y : Type 0} → (ℕ → X → List Y) → ℕ → List X → List Y
each make n [] = []
each make n (x ∷ xs) = make n x ++ each make (n + 1) xs

-- one item, where a test is true
abbrev pub only_if : {Y : Type 0} → Bool → Y → List Y
only_if test y = cond test (y ∷ []) []

abbrev pub first_of : {Y : Type 0} → List Y → Option Y
first_of [] = None
first_of (y ∷ ys) = Some y
