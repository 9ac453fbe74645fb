-- What lowering does with the module that counts an accepted plain module.
use Rattle.std.specs.Prelude.{◌≡◌, Bool, [], None}
use Rattle.gen_plan.specs.Gen.{counted}
use Rattle.ir_rules.specs.Accepted.{IsAccepted}
use Rattle.ir_rules.specs.Kinds.{kind_of}
use Rattle.ir_rules.specs.Limits.{passed}
use Rattle.ir_rules.specs.declared.place.Kind.TheVariants.{Plain}
use Rattle.ir_tree.specs.declared.types.Module.{Module}
use Rattle.lowering.specs.Lowered.{lowered}
use Rattle.lowering.specs.Refusals.{refusal}

-- it refuses nothing
abbrev pub NothingRefused : Type 0
NothingRefused = (entry_first : Bool) (m : Module) → IsAccepted m → kind_of m.functions ≡ Plain → refusal (counted entry_first m) ≡ None

-- the lowered module passes no limit
abbrev pub NoLimitPassed : Type 0
NoLimitPassed = (entry_first : Bool) (m : Module) → IsAccepted m → kind_of m.functions ≡ Plain → passed (lowered (counted entry_first m)) ≡ []

-- so it is accepted
abbrev pub IsLoweredCounted : Type 0
IsLoweredCounted = (entry_first : Bool) (m : Module) → IsAccepted m → kind_of m.functions ≡ Plain → IsAccepted (lowered (counted entry_first m))
