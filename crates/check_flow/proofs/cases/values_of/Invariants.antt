use Rattle.std.proofs.Common.{◌≡◌, map, take}
use Rattle.check_flow.proofs.cases.values_of.Given as goal

abbrev pub invariant-loop-case : goal.invariant-loop-case
invariant-loop-case l = l.values.items ≡ map (λ c. c.0) (take l.case-index l.cases)
