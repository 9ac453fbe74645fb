use Rattle.std.proofs.Common.{◌≡◌, map, take}
use Rattle.ir_code.specs.Found.{typed_input_in}
use Rattle.ir_code.proofs.operands.inputs.Given as goal

abbrev pub invariant-loop-ty : goal.invariant-loop-ty
invariant-loop-ty l =
    l.inputs.items ≡ map (typed_input_in l.symbols l.registers) (take l.ty-index l.operands)
