use Rattle.std.proofs.Common.{drop}
use Rattle.flow_solve.proofs.Marks.{Marking}
use Rattle.flow_solve.proofs.ends.join.Given as goal

abbrev pub invariant-loop-number : goal.invariant-loop-number
invariant-loop-number l = Marking l.edges l.order (drop l.number-index l.order) l.marks l.ends
