use Rattle.std.proofs.Common.{◌≡◌, ◌++◌, take, drop}
use Rattle.ir_tree.specs.Phis.{rename_first}
use Rattle.count_insert.proofs.entries.rename_first.Given as goal

abbrev pub invariant-loop-entry : goal.invariant-loop-entry
invariant-loop-entry l = take l.entry-index l.entries ++ rename_first l.label l.other (drop l.entry-index l.entries) ≡ rename_first l.label l.other l.initial.entries
