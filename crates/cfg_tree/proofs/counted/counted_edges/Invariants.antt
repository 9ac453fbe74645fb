use Rattle.std.proofs.Common.{◌≡◌}
use Rattle.cfg_tree.specs.Counted.{counted_of}
use Rattle.cfg_tree.proofs.counted.counted_edges.Given as goal

abbrev pub invariant-loop-k : goal.invariant-loop-k
invariant-loop-k l = l.counted.items ≡ counted_of l.k l.order l.entry_first
