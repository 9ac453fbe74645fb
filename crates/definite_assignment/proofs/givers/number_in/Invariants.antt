use Rattle.std.proofs.Common.{◌≡◌, length, map, take, All, ◌<◌}
use Rattle.definite_assignment.specs.Uses.{AreTagged, is_for}
use Rattle.definite_assignment.proofs.givers.number_in.Given as goal

abbrev pub invariant-loop-u : goal.invariant-loop-u
invariant-loop-u l = (map is_for l.tagged.items ≡ take l.u-index l.uses) × AreTagged l.givers.items l.tagged.items × All (λ g. g < length l.initial.slots) l.givers.items
