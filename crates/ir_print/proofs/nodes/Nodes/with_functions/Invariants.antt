use Rattle.std.proofs.Common.{◌≡◌, fold, take}
use Rattle.canonical_text.specs.Notes.{with_function}
use Rattle.ir_print.proofs.nodes.Nodes.with_functions.Given as goal

abbrev pub invariant-loop-function : goal.invariant-loop-function
invariant-loop-function l = l.nodes ≡ fold with_function l.initial.nodes (take l.function-index l.functions)
