use Rattle.std.proofs.Common.{List, ◌++◌, take}
use Rattle.spec_lists.specs.Each.{each}
use Rattle.ir_tree.specs.FunctionNames.{IndexesEntries}
use Rattle.ir_tree.specs.Locals.{Entry, block_locals}
use Rattle.ir_tree.proofs.function_index.FunctionIndex.add_blocks.Given as goal

abbrev pub invariant-loop-b : goal.invariant-loop-b
invariant-loop-b l = (es : List Entry) → IndexesEntries l.initial.self es → IndexesEntries l.self (es ++ each block_locals 0 (take l.b l.blocks))
