use Rattle.std.proofs.Common.{◌≡◌, map, take}
use Rattle.ir_assigned.specs.Exposed.{use_of}
use Rattle.ir_assigned.proofs.unready.uses_of.Given as goal

abbrev pub invariant-loop-read : goal.invariant-loop-read
invariant-loop-read l = l.uses.items ≡ map use_of (take l.read-index l.reads)
