use Rattle.std.proofs.Common.{◌≡◌, ℕ, List, None, take}
use Rattle.lower_units.specs.Table.{told_at}
use Rattle.lower_units.specs.Told.{told_after}
use Rattle.lowering.specs.Asked.{asked_by_all}
use Rattle.lower_units.proofs.table.Table.of.Given as goal

abbrev pub invariant-loop-function : goal.invariant-loop-function
invariant-loop-function l = (q : List ℕ) → told_at l.made q ≡ told_after q None (asked_by_all (take l.function-index l.functions))
