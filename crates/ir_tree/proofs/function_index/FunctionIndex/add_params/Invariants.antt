use Rattle.std.proofs.Common.{List, ◌++◌, take}
use Rattle.spec_lists.specs.Each.{each}
use Rattle.ir_tree.specs.FunctionNames.{IndexesEntries}
use Rattle.ir_tree.specs.Locals.{Entry, param}
use Rattle.ir_tree.proofs.function_index.FunctionIndex.add_params.Given as goal

abbrev pub invariant-loop-i : goal.invariant-loop-i
invariant-loop-i l = (es : List Entry) → IndexesEntries l.initial.self es → IndexesEntries l.self (es ++ each param 0 (take l.i l.params))
