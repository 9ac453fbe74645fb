use Rattle.std.proofs.Common.{◌≡◌, ◌++◌, drop}
use Rattle.ir_machine.specs.Steps.{arguments}
use Rattle.ir_machine.proofs.calls.first_registers.Given as goal

-- what is there and what is left of the arguments are all
abbrev pub invariant-loop-i : goal.invariant-loop-i
invariant-loop-i l =
    l.registers.items ++ arguments (drop l.i l.function.params) (drop l.i l.values) ≡ arguments l.function.params l.values
