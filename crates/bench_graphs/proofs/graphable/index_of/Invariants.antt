use Rattle.std.proofs.Common.{take}
use Rattle.ir_tree.specs.Names.{Indexes}
use Rattle.ir_tree.specs.Blocks.{labels}
use Rattle.bench_graphs.proofs.graphable.index_of.Given as goal

abbrev pub invariant-loop-b : goal.invariant-loop-b
invariant-loop-b l = Indexes l.index (labels (take l.b l.blocks))
