use Rattle.std.proofs.Common.{take}
use Rattle.ir_tree.specs.Names.{Indexes}
use Rattle.ir_tree.proofs.index.Index.of.Given as goal

abbrev pub invariant-loop-i : goal.invariant-loop-i
invariant-loop-i l = Indexes l.index (take l.i l.names)
