use Rattle.std.proofs.Common.{◌≡◌, drop}
use Rattle.lower_units.specs.Faults.{first_fault}
use Rattle.lower_units.specs.Table.{told_at}
use Rattle.lowering.specs.Asked.{asked_by_all}
use Rattle.lower_units.proofs.faults.first_fault.Given as goal

abbrev pub invariant-loop-function : goal.invariant-loop-function
invariant-loop-function l = first_fault (told_at l.table) (asked_by_all (drop l.function-index l.functions)) ≡ first_fault (told_at l.table) (asked_by_all l.functions)
