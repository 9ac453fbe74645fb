use Rattle.std.proofs.Common.{◌≡◌, map, take}
use Rattle.ir_code.specs.Found.{op_in}
use Rattle.ir_code.proofs.resolving.ops.Given as goal

abbrev pub invariant-loop-instr : goal.invariant-loop-instr
invariant-loop-instr l = l.ops.items ≡ map (op_in l.symbols l.registers) (take l.instr-index l.instrs)
