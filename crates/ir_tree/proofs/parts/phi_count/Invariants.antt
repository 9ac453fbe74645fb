use Rattle.std.proofs.Common.{◌≡◌, ◌+◌, drop}
use Rattle.ir_tree.specs.Phis.{phi_count}
use Rattle.ir_tree.proofs.parts.phi_count.Given as goal

abbrev pub invariant-loop-i : goal.invariant-loop-i
invariant-loop-i l = l.i + phi_count (drop l.i l.instrs) ≡ phi_count l.instrs
