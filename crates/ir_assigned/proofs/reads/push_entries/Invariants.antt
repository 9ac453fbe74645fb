use Rattle.std.proofs.Common.{◌≡◌, ◌++◌, take}
use Rattle.ir_assigned.specs.Reads.{entries_reads}
use Rattle.ir_tree.specs.FunctionNames.{indexed}
use Rattle.ir_assigned.proofs.reads.push_entries.Given as goal

abbrev pub invariant-loop-entry : goal.invariant-loop-entry
invariant-loop-entry l = l.reads.items ≡ l.initial.reads.items ++ entries_reads (indexed l.known) l.b l.i (take l.entry-index l.entries)
