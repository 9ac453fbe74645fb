use Rattle.std.proofs.Common.{take}
use Rattle.ir_tree.specs.Names.{Indexes}
use Rattle.ir_tree.specs.Edges.{labels}
use Rattle.cfg_edges.proofs.labels.index_of.Given as goal

abbrev pub invariant-loop-b : goal.invariant-loop-b
invariant-loop-b l = Indexes l.index (labels (take l.b l.blocks))
