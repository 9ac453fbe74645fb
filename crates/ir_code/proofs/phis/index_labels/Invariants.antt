use Rattle.std.proofs.Common.{map, take}
use Rattle.ir_tree.specs.Names.{Indexes}
use Rattle.ir_code.proofs.phis.index_labels.Given as goal

abbrev pub invariant-loop-i : goal.invariant-loop-i
invariant-loop-i l = Indexes l.index (map (λ e. e.1) (take l.i l.entries))
