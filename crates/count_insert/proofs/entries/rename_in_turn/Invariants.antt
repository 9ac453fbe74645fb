use Rattle.std.proofs.Common.{◌≡◌, drop}
use Rattle.count_plan.specs.Ways.{renamed}
use Rattle.count_insert.proofs.entries.rename_in_turn.Given as goal

abbrev pub invariant-loop-label : goal.invariant-loop-label
invariant-loop-label l = renamed (drop l.label-index l.news) l.entries ≡ renamed l.news l.initial.entries
