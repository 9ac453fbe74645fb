-- What `lower MODULE OUT` makes of a module.
use Rattle.std.specs.Prelude.{◌≡◌, ℕ, List, [], ◌∷◌, Some}
use Rattle.std.proofs.Common.{ap, sym, ◌∙◌}
use Rattle.std.proofs.lemmas.Option.{none-some}
use Rattle.instr_lower.specs.Made.{IsLoweredFrom, IsMadeOf, IsRefusedFor}
use Rattle.instr_lower.specs.declared.error.LowerError.{LowerError}
use Rattle.instr_lower.specs.declared.error.LowerError.TheVariants as error
use Rattle.ir_rules.specs.Accepted.{IsAccepted}
use Rattle.ir_rules.specs.Limits.{passed}
use Rattle.ir_tree.specs.declared.types.Module.{Module}
use Rattle.lowering.specs.Lowered.{lowered}
use Rattle.spec_lists.specs.Each.{first_of}
use Rattle.pgo_shell.specs.Judgement.{Part, Whole, then}
use Rattle.pgo_shell.specs.Shell.{Task, text_of}
use Rattle.pgo_shell.specs.World.{World}
use Rattle.command_lines.specs.TextAt.{text_at}
use Rattle.command_texts.specs.Program.{IsProgram, program}
use Rattle.command_written.specs.Laws.{ModuleStands}
use Rattle.command_written.specs.Written.{writes}
use Rattle.command_lower.specs.LowerLines.{OfModule, lower_line}

-- a `lower` with its words: the module's file, and the file that it writes
pub record LowerFiles : Type 0 where
  pub «module» : List ℕ
  pub out : List ℕ

-- ---- the lowered form of a module, or the line that says why it has none

-- it counts by intrinsics, no call and no unit of it is refused, and its lowered form passes no limit
pub record IsLowering (m made : Module) : Type 0 where
  pub from : IsLoweredFrom m
  pub within : passed (lowered m) ≡ []
  pub is : made ≡ lowered m

-- there is a reason against it, and the line says the first
abbrev pub IsNotLowered : List ℕ → Module → List ℕ → Type 0
IsNotLowered file m line = (e : LowerError) × (OfModule e × IsRefusedFor m e × (line ≡ lower_line file e))

-- a reason stands against every lowering
pub not_lowered : (m made : Module) (e : LowerError) → OfModule e → IsRefusedFor m e → IsLowering m made → ⊥
not_lowered m made (error.WrongKind found) of why is = why.1 (sym why.0 ∙ is.from.counted)
not_lowered m made (error.HashDiffers name first other) of why is = none-some _ (sym is.from.unrefused ∙ why.1)
not_lowered m made (error.CountDiffers name first other) of why is = none-some _ (sym is.from.unrefused ∙ why.1)
not_lowered m made (error.IndexPast name index count) of why is = none-some _ (sym is.from.unrefused ∙ why.1)
not_lowered m made (error.NoIncrement name) of why is = none-some _ (sym is.from.unrefused ∙ why.1)
not_lowered m made (error.Limit which found) of why is = none-some _ (sym (ap first_of is.within) ∙ why.1)
not_lowered m made error.NoMemory of why is = of

abbrev pub lowered_from : List ℕ → Module → Part Module
lowered_from file m = record {
  refuses = IsNotLowered file m;
  finds = IsLowering m;
  apart = λ line made refused found. not_lowered m made refused.0 refused.1.0 refused.1.1 found;
  one = λ a b p q. p.is ∙ sym q.is;
}

-- ---- the command

-- what the text comes to: a program, its lowered form, and that in the file
abbrev pub lower_judgement : LowerFiles → List ℕ → Whole
lower_judgement f text = then (program f.«module» text) (λ m. then (lowered_from f.«module» m) writes)

abbrev pub lower_task : LowerFiles → Task
lower_task f = record { reads = f.«module» ∷ []; writes = f.out ∷ []; judges = λ texts. lower_judgement f (text_at texts 0) }

-- the lowered form of an accepted module is accepted, and runs as the module does, with all that it shows
abbrev pub AreLowered : Type 0
AreLowered = (m : Module) → IsAccepted m → IsLoweredFrom m → passed (lowered m) ≡ [] → IsMadeOf m (lowered m)

-- What stands after a `lower` that ended well: its file held a program that counts, and the file `out` holds the canonical text of its
-- lowered form. This is accepted as a lowered module, and each run of it is the run of the program. No other file changed, and nothing
-- was put
pub record LowerStands (f : LowerFiles) (old new : World) : Type 0 where
  pub program : List ℕ
  pub program_is : text_of old.files f.«module» ≡ Some program
  pub m : Module
  pub spelled : IsProgram program m
  pub made : IsMadeOf m (lowered m)
  pub stands : ModuleStands f.out (lowered m) old new
