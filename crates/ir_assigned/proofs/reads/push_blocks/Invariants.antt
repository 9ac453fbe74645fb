use Rattle.std.proofs.Common.{◌≡◌, ◌++◌, take}
use Rattle.ir_assigned.specs.Reads.{block_reads}
use Rattle.ir_tree.specs.FunctionNames.{indexed}
use Rattle.spec_lists.specs.Each.{each}
use Rattle.ir_assigned.proofs.reads.push_blocks.Given as goal

abbrev pub invariant-loop-b : goal.invariant-loop-b
invariant-loop-b l = l.reads.items ≡ l.initial.reads.items ++ each (block_reads (indexed l.known)) 0 (take l.b l.blocks)
