use Rattle.std.proofs.Common.{◌≡◌, take}
use Rattle.instr_lower.proofs.functions.params_of.Given as goal

abbrev pub invariant-loop-param : goal.invariant-loop-param
invariant-loop-param l = l.made.items ≡ take l.param-index l.params
