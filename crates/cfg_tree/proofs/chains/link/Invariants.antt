use Rattle.std.proofs.Common.{◌≤◌, length}
use Rattle.cfg_tree.proofs.Chained.{Linking}
use Rattle.cfg_tree.proofs.chains.link.Given as goal

abbrev pub invariant-loop-k : goal.invariant-loop-k
invariant-loop-k l = record {
  within : l.k ≤ length l.edges;
  linking : Linking l.end l.edges l.k l.first l.next;
}

abbrev pub decreases-loop-k : goal.decreases-loop-k
decreases-loop-k l = l.k
