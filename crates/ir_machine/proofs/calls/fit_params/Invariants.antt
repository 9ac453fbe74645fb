use Rattle.std.proofs.Common.{◌≡◌, List, length, drop, map}
use Rattle.ir_memory.specs.declared.value.Value.{Value}
use Rattle.ir_machine.specs.Steps.{fits_params, valued}
use Rattle.ir_machine.proofs.calls.fit_params.Given as goal

-- what is left decides
abbrev pub invariant-loop-i : goal.invariant-loop-i
invariant-loop-i l =
    (length l.params ≡ length l.args)
    × ((regs : List Value) → fits_params (drop l.i l.params) (map (valued regs) (drop l.i l.args)) ≡ fits_params l.params (map (valued regs) l.args))
