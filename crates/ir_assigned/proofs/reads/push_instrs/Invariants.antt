use Rattle.std.proofs.Common.{◌≡◌, ◌++◌, take}
use Rattle.ir_assigned.specs.Reads.{instr_reads}
use Rattle.ir_tree.specs.FunctionNames.{indexed}
use Rattle.spec_lists.specs.Each.{each}
use Rattle.ir_assigned.proofs.reads.push_instrs.Given as goal

abbrev pub invariant-loop-i : goal.invariant-loop-i
invariant-loop-i l = l.reads.items ≡ l.initial.reads.items ++ each (instr_reads (indexed l.known) l.b) 0 (take l.i l.instrs)
