-- The lowered form of an accepted module that counts keeps the rules.
use Rattle.std.specs.Prelude.{◌≡◌, [], None}
use Rattle.ir_rules.specs.Accepted.{IsAccepted}
use Rattle.ir_rules.specs.Kinds.{kind_of}
use Rattle.ir_rules.specs.Limits.{passed}
use Rattle.ir_rules.specs.WellFormed.{IsWellFormed}
use Rattle.ir_rules.specs.declared.place.Kind.TheVariants.{Counted}
use Rattle.ir_tree.specs.declared.types.Module.{Module}
use Rattle.lowering.specs.Lowered.{lowered}
use Rattle.lowering.specs.Refusals.{refusal}

-- it is well formed, where lowering refuses nothing
abbrev pub IsLoweredWell : Type 0
IsLoweredWell = (m : Module) → IsAccepted m → kind_of m.functions ≡ Counted → refusal m ≡ None → IsWellFormed (lowered m)

-- it is accepted, where it passes no limit either
abbrev pub IsLoweredAccepted : Type 0
IsLoweredAccepted = (m : Module) → IsAccepted m → kind_of m.functions ≡ Counted → refusal m ≡ None → passed (lowered m) ≡ [] → IsAccepted (lowered m)
