use Rattle.std.proofs.Common.{◌≡◌, take}
use Rattle.instr_lower.proofs.whole.copies.Given as goal

abbrev pub invariant-loop-g : goal.invariant-loop-g
invariant-loop-g l = l.made.items ≡ take l.g-index l.globals
