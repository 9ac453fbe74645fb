use Rattle.std.proofs.Common.{◌+◌, ◌*◌, length}
use Rattle.definite_assignment.specs.Narrowing.{Narrowing}
use Rattle.definite_assignment.proofs.Narrows.{total}
use Rattle.definite_assignment.proofs.settling.settle.Given as goal

abbrev pub invariant-loop-block : goal.invariant-loop-block
invariant-loop-block l = Narrowing l.rows l.gives l.words l.work.items

abbrev pub decreases-loop-block : goal.decreases-loop-block
decreases-loop-block l = 2 * total l.words + length l.work.items
