-- Uses of what blocks give, and which of them are exposed: the use can be reached by a walk that doesn't leave the block that gives.
use Rattle.std.specs.Prelude.{◌≡◌, ℕ, ◌/◌, ◌%◌, ◌⊎◌, Bool, ◌&&◌, ◌==◌, List, [], ◌∷◌, ◌++◌, Some, slice_get, slice_index, slice_set}
use Rattle.std.specs.Int.{bit_at}
use Rattle.definite_assignment.specs.declared.givers.Tagged.{Tagged}
use Rattle.definite_assignment.specs.declared.givers.Use.{Use}
use Rattle.ir_tree.specs.Reach.{is_marked, reached}

-- the rows of a graph without the ways out of block d
abbrev pub rows_without : List (List ℕ) → ℕ → List (List ℕ)
rows_without rows d = slice_set rows d []

-- block b can be reached without leaving block d
unfoldable pub is_open : List (List ℕ) → ℕ → ℕ → Bool
is_open rows d b = is_marked (reached (rows_without rows d)) b

abbrev pub is_exposed : List (List ℕ) → Use → Bool
is_exposed rows u = is_open rows u.giver u.at

-- ---- uses with the numbers of their blocks

abbrev pub is_for : Tagged → Use
is_for t = record { giver = t.giver; at = t.at }

abbrev pub AreTagged : List ℕ → List Tagged → Type 0
AreTagged givers [] = Unit {0}
AreTagged givers (t ∷ ts) = (slice_get givers t.slot ≡ Some t.giver) × AreTagged givers ts

-- the list is as it was, or has this block more at its end
abbrev pub Grows : ℕ → List ℕ → List ℕ → Type 0
Grows giver old new = (new ≡ old) ⊎ (new ≡ old ++ giver ∷ [])

-- the use is one of chunk c, and its block has not the bit
abbrev pub lacks : List ℕ → ℕ → Tagged → Bool
lacks words c t = (t.slot / 64 == c) && (bit_at (slice_index words t.at) (t.slot % 64) == 0)
