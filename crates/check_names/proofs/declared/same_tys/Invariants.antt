use Rattle.std.proofs.Common.{◌≡◌, drop, map}
use Rattle.ir_rules.specs.Declarations.{same_tys}
use Rattle.check_names.proofs.declared.same_tys.Given as goal

abbrev pub invariant-loop-i : goal.invariant-loop-i
invariant-loop-i l = same_tys (drop l.i l.types) (map (λ p. p.0) (drop l.i l.params)) ≡ same_tys l.types (map (λ p. p.0) l.params)
