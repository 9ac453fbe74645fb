use Rattle.std.proofs.Common.{◌≡◌, ◌++◌, ◌+◌, take, drop}
use Rattle.count_plan.specs.Ways.{led_cases}
use Rattle.count_insert.proofs.ways.lead_cases.Given as goal

abbrev pub invariant-loop-place : goal.invariant-loop-place
invariant-loop-place l = take l.place l.cases ++ led_cases l.plan (l.place + 1) (drop l.place l.cases) ≡ led_cases l.plan 1 l.initial.cases
