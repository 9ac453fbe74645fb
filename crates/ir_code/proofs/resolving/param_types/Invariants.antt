use Rattle.std.proofs.Common.{◌≡◌, map, take}
use Rattle.ir_code.proofs.resolving.param_types.Given as goal

abbrev pub invariant-loop-ty : goal.invariant-loop-ty
invariant-loop-ty l = l.types.items ≡ map (λ p. p.0) (take l.ty-index l.params)
