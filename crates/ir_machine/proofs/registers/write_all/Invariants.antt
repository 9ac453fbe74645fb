use Rattle.std.proofs.Common.{◌≡◌, drop}
use Rattle.ir_machine.specs.Steps.{put_all}
use Rattle.ir_machine.proofs.registers.write_all.Given as goal

-- what is still to be written makes of the registers what all moves make of the first ones
abbrev pub invariant-loop-i : goal.invariant-loop-i
invariant-loop-i l =
    put_all l.registers (drop l.i l.moves) (drop l.i l.values) ≡ put_all l.initial.registers l.moves l.values
