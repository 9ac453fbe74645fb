use Rattle.std.proofs.Common.{◌≡◌, map, take}
use Rattle.lowering.specs.Lowered.{lowered_instr}
use Rattle.instr_lower.proofs.functions.lowered_instrs.Given as goal

abbrev pub invariant-loop-instr : goal.invariant-loop-instr
invariant-loop-instr l = l.made.items ≡ map lowered_instr (take l.instr-index l.instrs)
