-- What lowering makes of a module, and why it makes nothing.
use Rattle.std.specs.Prelude.{◌≡◌, ◌≢◌, ◌<◌, ℕ, None, Some}
use Rattle.instr_lower.specs.declared.error.LowerError.{LowerError}
use Rattle.instr_lower.specs.declared.error.LowerError.TheVariants as error
use Rattle.ir_likeness.specs.Like.{AreLike}
use Rattle.ir_model.specs.Run.{run_of}
use Rattle.ir_model.specs.declared.result.Call.{Call}
use Rattle.ir_rules.specs.Accepted.{IsAccepted}
use Rattle.ir_rules.specs.Kinds.{kind_of}
use Rattle.ir_rules.specs.Limits.{passed}
use Rattle.ir_rules.specs.declared.place.Kind.TheVariants.{Counted, Lowered}
use Rattle.ir_tree.specs.declared.types.Module.{Module}
use Rattle.lowering.specs.Lowered.{lowered}
use Rattle.lowering.specs.Refusals as refusals
use Rattle.lowering.specs.Refusals.{refusal}
use Rattle.spec_lists.specs.Each.{first_of}

-- a module that counts, of which no call and no unit is refused
pub record IsLoweredFrom (m : Module) : Type 0 where
  pub counted : kind_of m.functions ≡ Counted
  pub unrefused : refusal m ≡ None

-- its lowered form: it is accepted as one, and runs as the module
pub record IsMadeOf (m made : Module) : Type 0 where
  pub from : IsLoweredFrom m
  pub is : made ≡ lowered m
  pub accepted : IsAccepted made
  pub kind : kind_of made.functions ≡ Lowered
  pub same : (c : Call) (n : ℕ) → run_of made c n ≡ run_of m c n
  pub alike : AreLike m made 1 0

-- The module is of another kind, which is told; or it counts, and the first call that fails a test, or else the first unit that value
-- notes alone name, is told with what it has; or none of these, and the first limit that the lowered module passes is told; where memory
-- is wanting it counts
abbrev pub IsRefusedFor : Module → LowerError → Type 0
IsRefusedFor m (error.WrongKind found) = (kind_of m.functions ≡ found) × (found ≢ Counted)
IsRefusedFor m (error.HashDiffers name first other) = (kind_of m.functions ≡ Counted) × (refusal m ≡ Some (refusals.HashDiffers name first other))
IsRefusedFor m (error.CountDiffers name first other) = (kind_of m.functions ≡ Counted) × (refusal m ≡ Some (refusals.CountDiffers name first other))
IsRefusedFor m (error.IndexPast name index count) = (kind_of m.functions ≡ Counted) × (refusal m ≡ Some (refusals.IndexPast name index count))
IsRefusedFor m (error.NoIncrement name) = (kind_of m.functions ≡ Counted) × (refusal m ≡ Some (refusals.NoIncrement name))
IsRefusedFor m (error.Limit which found) = IsLoweredFrom m × (first_of (passed (lowered m)) ≡ Some (which, found))
IsRefusedFor m error.NoMemory = kind_of m.functions ≡ Counted

-- ---- on the way there

-- a well-formed module passes a limit, or memory is wanting
abbrev pub IsPast : Module → LowerError → Type 0
IsPast m (error.WrongKind found) = ⊥
IsPast m (error.HashDiffers name first other) = ⊥
IsPast m (error.CountDiffers name first other) = ⊥
IsPast m (error.IndexPast name index count) = ⊥
IsPast m (error.NoIncrement name) = ⊥
IsPast m (error.Limit which found) = first_of (passed m) ≡ Some (which, found)
IsPast m error.NoMemory = Unit {0}

-- numbers of counters and counters of 32 bits
abbrev pub IsSmall : refusals.Refusal → Type 0
IsSmall (refusals.HashDiffers name first other) = Unit {0}
IsSmall (refusals.CountDiffers name first other) = (first < 4294967296) × (other < 4294967296)
IsSmall (refusals.IndexPast name index count) = (index < 4294967296) × (count < 4294967296)
IsSmall (refusals.NoIncrement name) = Unit {0}
