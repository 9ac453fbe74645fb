-- Reads as uses of what blocks give, and the items that make them.
use Rattle.std.specs.Prelude.{ℕ, Bool, List, [], ◌∷◌, Option, None, Some, slice_get}
use Rattle.std.specs.Option.{option_map, option_and_then}
use Rattle.definite_assignment.specs.declared.givers.Use.{Use}
use Rattle.ir_assigned.specs.declared.reads.Read.{Read}

abbrev pub use_of : Read → Use
use_of r = record { giver = r.giver; at = r.at }

abbrev pub spot : Read → ℕ × ℕ
spot r = (r.block, r.item)

-- the item of the read at a place
abbrev pub spot_at : List Read → Option ℕ → Option (ℕ × ℕ)
spot_at reads place = option_map spot (option_and_then (slice_get reads) place)
