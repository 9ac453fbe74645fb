use Rattle.std.proofs.Common.{map, take}
use Rattle.ir_tree.specs.Functions.{numbered}
use Rattle.ir_code.specs.Names.{AreNumbered}
use Rattle.ir_code.proofs.units.function_index.Given as goal

abbrev pub invariant-loop-function : goal.invariant-loop-function
invariant-loop-function l = AreNumbered l.names (map (λ f. f.name) (numbered (take l.function-index l.functions)))
