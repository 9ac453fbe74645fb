use Rattle.std.proofs.Common.{map, take}
use Rattle.ir_tree.specs.Names.{Indexes}
use Rattle.ir_code.proofs.units.global_index.Given as goal

abbrev pub invariant-loop-i : goal.invariant-loop-i
invariant-loop-i l = Indexes l.index (map (λ g. g.name) (take l.i l.globals))
