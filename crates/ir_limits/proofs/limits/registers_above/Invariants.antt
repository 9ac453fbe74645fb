use Rattle.std.proofs.Common.{◌≡◌, drop}
use Rattle.ir_rules.specs.Limits.{each_above, registers}
use Rattle.ir_rules.specs.declared.place.LimitKind.TheVariants.{Registers}
use Rattle.spec_lists.specs.Each.{first_of}
use Rattle.ir_limits.proofs.limits.registers_above.Given as goal

abbrev pub invariant-loop-f : goal.invariant-loop-f
invariant-loop-f l = first_of (each_above Registers l.bound (registers l.kind) (drop l.f-index l.functions)) ≡ first_of (each_above Registers l.bound (registers l.kind) l.functions)
