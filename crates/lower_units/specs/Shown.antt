-- What the code's values show, in the words of lowering.
use Rattle.std.specs.Prelude.{Option, None, Some}
use Rattle.std.specs.Borrow.{Bor}
use Rattle.ir_tree.specs.declared.types.Operand.{Operand}
use Rattle.ir_tree.specs.declared.types.Operand.TheVariants.{Int}
use Rattle.lower_units.specs.declared.asked.Asked.{Asked}
use Rattle.lower_units.specs.declared.asked.Asked.TheVariants.{Rise, Note}
use Rattle.lower_units.specs.declared.refusal.Refusal.{Refusal}
use Rattle.lower_units.specs.declared.refusal.Refusal.TheVariants.{HashDiffers, CountDiffers, IndexPast, NoIncrement}
use Rattle.lowering.specs.Asked as spec
use Rattle.lowering.specs.Refusals as refusals

-- a plain increment is by one
abbrev pub amount_of : Option (Bor Operand) → Operand
amount_of None = Int 1
amount_of (Some amount) = amount.now

abbrev pub asked : Asked → spec.Asked
asked (Rise symbol hash counters counter amount) = spec.Rise symbol.now hash counters counter (amount_of amount)
asked (Note symbol hash target site) = spec.Note symbol.now hash target.now site

abbrev pub refusal : Refusal → refusals.Refusal
refusal (HashDiffers name first other) = refusals.HashDiffers name first other
refusal (CountDiffers name first other) = refusals.CountDiffers name first other
refusal (IndexPast name index count) = refusals.IndexPast name index count
refusal (NoIncrement name) = refusals.NoIncrement name
