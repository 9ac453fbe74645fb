use Rattle.std.proofs.Common.{◌≡◌, ◌+◌, ◌≤◌, ◌++◌, drop}
use Rattle.ir_tree.specs.Edges.{numbers}
use Rattle.cfg_edges.proofs.nodes.numbers_of.Given as goal

abbrev pub invariant-loop-marked : goal.invariant-loop-marked
invariant-loop-marked l = record {
  small : l.next ≤ l.marked-index + 1;
  made : l.nodes.items ++ numbers l.next (drop l.marked-index l.marks) ≡ numbers 1 l.marks;
}
