use Rattle.std.proofs.Common.{◌++◌, map, take}
use Rattle.std.specs.Prelude.{flat_map}
use Rattle.ir_tree.specs.Operands.{result_names}
use Rattle.ir_code.specs.Names.{AreNumbered}
use Rattle.ir_code.proofs.resolving.number_registers.Given as goal

abbrev pub invariant-loop-block : goal.invariant-loop-block
invariant-loop-block l =
    AreNumbered l.registers (map (λ p. p.1) l.function.params ++ flat_map (λ b. result_names b.instrs) (take l.block-index l.block-items))
