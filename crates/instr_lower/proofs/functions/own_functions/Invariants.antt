use Rattle.std.proofs.Common.{◌≡◌, take}
use Rattle.instr_lower.specs.Parts.{lowered_own}
use Rattle.instr_lower.proofs.functions.own_functions.Given as goal

abbrev pub invariant-loop-function : goal.invariant-loop-function
invariant-loop-function l = l.made.items ≡ lowered_own (take l.function-index l.functions)
