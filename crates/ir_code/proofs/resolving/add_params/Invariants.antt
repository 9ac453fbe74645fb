use Rattle.std.proofs.Common.{ℕ, List, ◌++◌, map, take}
use Rattle.ir_code.specs.Names.{AreNumbered}
use Rattle.ir_code.proofs.resolving.add_params.Given as goal

abbrev pub invariant-loop-name : goal.invariant-loop-name
invariant-loop-name l =
    (names : List (List ℕ)) → AreNumbered l.initial.registers names → AreNumbered l.registers (names ++ map (λ p. p.1) (take l.name-index l.params))
