use Rattle.std.proofs.Common.{map, take}
use Rattle.ir_tree.specs.Names.{Indexes}
use Rattle.ir_tree.proofs.numbering.index_of.Given as goal

abbrev pub invariant-loop-i : goal.invariant-loop-i
invariant-loop-i l = Indexes l.index (map (λ f. f.name) (map (λ f. f.now) (take l.i l.functions)))
