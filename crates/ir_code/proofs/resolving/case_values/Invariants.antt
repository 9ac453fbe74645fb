use Rattle.std.proofs.Common.{◌≡◌, map, take}
use Rattle.ir_code.proofs.resolving.case_values.Given as goal

abbrev pub invariant-loop-value : goal.invariant-loop-value
invariant-loop-value l = l.values.items ≡ map (λ c. c.0) (take l.value-index l.cases)
