use Rattle.std.proofs.Common.{◌≡◌, drop, pos}
use Rattle.std.specs.Prelude.{◌+ℤ◌}
use Rattle.ir_value.specs.Integer.{wrapped}
use Rattle.ir_machine.specs.Steps.{distance}
use Rattle.ir_machine.proofs.deeds.travel.Given as goal

-- what is left of the way leads from here where the whole leads from the start
abbrev pub invariant-loop-one : goal.invariant-loop-one
invariant-loop-one l =
    wrapped 64 (pos l.offset +ℤ distance l.registers (drop l.one-index l.indices)) ≡ wrapped 64 (pos l.start +ℤ distance l.registers l.indices)
