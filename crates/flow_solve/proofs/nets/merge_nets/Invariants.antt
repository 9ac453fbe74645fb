use Rattle.std.proofs.Common.{◌≡◌, ◌≤◌, length, drop}
use Rattle.flow_solve.specs.Nets.{merge_all}
use Rattle.flow_solve.proofs.nets.merge_nets.Given as goal

abbrev pub invariant-loop-left : goal.invariant-loop-left
invariant-loop-left l = record {
  within : l.left ≤ length l.order;
  merged : l.nets ≡ merge_all l.edges l.ends (drop l.left l.order) l.initial.nets;
}

abbrev pub decreases-loop-left : goal.decreases-loop-left
decreases-loop-left l = l.left
