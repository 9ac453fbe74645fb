use Rattle.std.proofs.Common.{◌≡◌, ◌++◌, take}
use Rattle.ir_assigned.specs.Reads.{uses_reads}
use Rattle.ir_tree.specs.FunctionNames.{indexed}
use Rattle.ir_tree.specs.Operands.{operands}
use Rattle.ir_assigned.proofs.reads.push_operands.Given as goal

abbrev pub invariant-loop-place : goal.invariant-loop-place
invariant-loop-place l = l.reads.items ≡ l.initial.reads.items ++ uses_reads (indexed l.known) l.b l.i (take l.place (operands l.instr))
