use Rattle.std.proofs.Common.{ℕ, List, ◌++◌, take}
use Rattle.ir_tree.specs.Operands.{result_names}
use Rattle.ir_code.specs.Names.{AreNumbered}
use Rattle.ir_code.proofs.resolving.add_results.Given as goal

abbrev pub invariant-loop-instr : goal.invariant-loop-instr
invariant-loop-instr l =
    (names : List (List ℕ)) → AreNumbered l.initial.registers names → AreNumbered l.registers (names ++ result_names (take l.instr-index l.instrs))
