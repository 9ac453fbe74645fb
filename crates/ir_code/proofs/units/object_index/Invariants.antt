use Rattle.std.proofs.Common.{map, take}
use Rattle.ir_model.specs.Values.{objects}
use Rattle.ir_code.specs.Names.{AreNumbered}
use Rattle.ir_code.proofs.units.object_index.Given as goal

abbrev pub invariant-loop-global : goal.invariant-loop-global
invariant-loop-global l = AreNumbered l.names (map (λ g. g.name) (objects (take l.global-index l.globals)))
