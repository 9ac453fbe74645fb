-- Rows of numbers that stand one behind the other in one list, cut by where each of them ends.
use Rattle.std.specs.Prelude.{◌≡◌, ℕ, zero, suc, ◌≤◌, List, [], ◌∷◌, slice_index, slice_range}

-- the rows, of which the first begins at this place
abbrev pub cut : ℕ → List ℕ → List ℕ → List (List ℕ)
cut start [] targets = []
cut start (e ∷ es) targets = slice_range targets start e ∷ cut e es targets

-- no row ends before it begins, and the last one ends where the list ends
abbrev pub AreEnds : ℕ → List ℕ → ℕ → Type 0
AreEnds start [] size = start ≡ size
AreEnds start (e ∷ es) size = (start ≤ e) × AreEnds e es size

-- where a row begins: where the one before it ends
abbrev pub begins : ℕ → List ℕ → ℕ → ℕ
begins start ends zero = start
begins start ends (suc b) = slice_index ends b
