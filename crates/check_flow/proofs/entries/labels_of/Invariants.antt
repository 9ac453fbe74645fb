use Rattle.std.proofs.Common.{map, take}
use Rattle.ir_tree.specs.Names.{Indexes}
use Rattle.check_flow.proofs.entries.labels_of.Given as goal

abbrev pub invariant-loop-i : goal.invariant-loop-i
invariant-loop-i l = Indexes l.labels (map (λ e. e.1) (take l.i l.entries))
