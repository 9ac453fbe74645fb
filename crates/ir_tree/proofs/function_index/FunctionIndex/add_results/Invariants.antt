use Rattle.std.proofs.Common.{List, ◌++◌, take}
use Rattle.spec_lists.specs.Each.{each}
use Rattle.ir_tree.specs.FunctionNames.{IndexesEntries}
use Rattle.ir_tree.specs.Locals.{Entry, result_at}
use Rattle.ir_tree.proofs.function_index.FunctionIndex.add_results.Given as goal

abbrev pub invariant-loop-i : goal.invariant-loop-i
invariant-loop-i l = (es : List Entry) → IndexesEntries l.initial.self es → IndexesEntries l.self (es ++ each (result_at l.b) 0 (take l.i l.instrs))
