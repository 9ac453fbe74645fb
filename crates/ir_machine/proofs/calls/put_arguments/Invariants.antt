use Rattle.std.proofs.Common.{map}
use Rattle.ir_machine.specs.Steps.{input_value}
use Rattle.ir_machine.proofs.Params.{Filled}
use Rattle.ir_machine.proofs.calls.put_arguments.Given as goal

-- so many parameters have taken their arguments
abbrev pub invariant-loop-i : goal.invariant-loop-i
invariant-loop-i l =
    Filled l.function (map (λ a. input_value l.caller a.1) l.args) l.i l.registers
