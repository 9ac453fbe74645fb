use Rattle.std.proofs.Common.{◌≡◌, map}
use Rattle.std.specs.List.{range_with_len}
use Rattle.cfg_tree.specs.Walk.{walked}
use Rattle.cfg_tree.specs.Weights.{weight}
use Rattle.cfg_tree.proofs.weights.weights_of.Given as goal

abbrev pub invariant-loop-k : goal.invariant-loop-k
invariant-loop-k l = l.weights.items ≡ map (weight l.entry_first l.edges (walked l.nodes l.edges).back) (range_with_len 0 l.k)
