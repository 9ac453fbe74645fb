use Rattle.std.proofs.Common.{◌≡◌, map, take}
use Rattle.ir_machine.specs.Steps.{input_value}
use Rattle.ir_machine.proofs.registers.read_all.Given as goal

abbrev pub invariant-loop-one : goal.invariant-loop-one
invariant-loop-one l =
    l.values.items ≡ map (λ m. input_value l.registers m.source) (take l.one-index l.moves)
