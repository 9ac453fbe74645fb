use Rattle.std.proofs.Common.{◌≡◌, [], map, take}
use Rattle.gen_code.proofs.globals.declaration.Given as goal

abbrev pub invariant-loop-ty : goal.invariant-loop-ty
invariant-loop-ty l = l.params.items ≡ map (λ t. (t, [])) (take l.ty-index l.types)
