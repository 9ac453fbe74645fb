use Rattle.std.proofs.Common.{◌≡◌, take}
use Rattle.ir_code.proofs.phis.phis_in.Given as goal

abbrev pub invariant-loop-instr : goal.invariant-loop-instr
invariant-loop-instr l = l.phis.items ≡ take l.instr-index l.front
