-- What stands after a `lower`, and when it ends well, in its own words.
use Rattle.std.proofs.Common.{◌≡◌, ◌⊎◌, ℕ, List, [], ◌∷◌, Some, Ok, refl, ap, subst}
use Rattle.instr_lower.specs.Made.{IsLoweredFrom}
use Rattle.ir_rules.specs.Limits.{passed}
use Rattle.ir_tree.specs.declared.types.Module.{Module}
use Rattle.lowering.specs.Lowered.{lowered}
use Rattle.pgo_shell.specs.Laws.{read_at}
use Rattle.pgo_shell.specs.Promises.{Promises}
use Rattle.pgo_shell.specs.Shell.{Delivers, FaultsRose, text_of}
use Rattle.pgo_shell.specs.World.{World}
use Rattle.pgo_shell.specs.declared.status.Status.{Status}
use Rattle.pgo_shell.specs.declared.status.Status.TheVariants as status
use Rattle.command_lines.specs.TextAt.{text_at}
use Rattle.command_texts.specs.Program.{IsTheProgram}
use Rattle.command_written.specs.Laws.{ModuleStands, module_stands}
use Rattle.command_written.specs.Written.{module_made}
use Rattle.command_lower.specs.Lower.{AreLowered, LowerFiles, LowerStands, lower_task}

-- what was delivered is a `lower` in its own words
pub lower_stands : AreLowered → (f : LowerFiles) (old new : World) → old.tells → Delivers (lower_task f) old new (Ok tt) → LowerStands f old new
lower_stands made f old new told (worked, delivered) =
    let (m, the, (x, found, makes)) = worked.judged in
    record {
      program = text_at worked.texts 0;
      program_is = read_at old.files (f.«module» ∷ []) worked.texts 0 f.«module» worked.read refl;
      m = m;
      spelled = the.is;
      made = made m the.is.accepted found.from found.within;
      stands = subst (λ (n : Module). ModuleStands f.out n old new) found.is (module_stands f.out x worked.made old new told makes delivered);
    }

-- a program that counts is lowered where no call and no unit of it is refused and its lowered form passes no limit, unless a fault rose
-- or memory ran out
pub lower_finishes : (f : LowerFiles) (old new : World) (s : Status) → Promises (lower_task f) old new s → old.tells →
    (program : List ℕ) (m : Module) → text_of old.files f.«module» ≡ Some program → IsTheProgram program m → IsLoweredFrom m → passed (lowered m) ≡ [] →
    (FaultsRose (lower_task f) old new → ⊥) → (s ≡ status.Done) ⊎ (s ≡ status.Memory)
lower_finishes f old new s promises told program m program_is the from within quiet =
    promises.finishes (program ∷ []) (module_made (lowered m)) told (ap (λ a. a ∷ []) program_is)
    (m, the, (lowered m, record { from = from; within = within; is = refl }, refl)) quiet
