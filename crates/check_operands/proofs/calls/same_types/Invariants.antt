use Rattle.std.proofs.Common.{◌≡◌, drop, map}
use Rattle.ir_rules.specs.Calling.{arg_types}
use Rattle.ir_rules.specs.Declarations.{same_tys}
use Rattle.check_operands.proofs.calls.same_types.Given as goal

abbrev pub invariant-loop-i : goal.invariant-loop-i
invariant-loop-i l = same_tys (arg_types (drop l.i l.args)) (map (λ p. p.0) (drop l.i l.params)) ≡ same_tys (arg_types l.args) (map (λ p. p.0) l.params)
