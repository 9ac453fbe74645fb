use Rattle.std.proofs.Common.{◌≡◌, ◌-◌, ◌++◌, None, Some}
use Rattle.edge_split.specs.Split.{at_place}
use Rattle.split_edge.proofs.make.edges_before.Given as goal

abbrev pub invariant-loop-done : goal.invariant-loop-done
invariant-loop-done l = l.edges.items ++ at_place None (l.count - l.done) (Some l.new) ≡ at_place None l.count (Some l.new)
