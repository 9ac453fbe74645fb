-- What stands after a `print`, and when it ends well, in its own words.
use Rattle.std.proofs.Common.{◌≡◌, ◌⊎◌, ℕ, List, [], ◌∷◌, ◌++◌, Some, Ok, refl, ap, ◌∙◌}
use Rattle.ir_tree.specs.declared.types.Module.{Module}
use Rattle.pgo_shell.specs.Judgement.{Made}
use Rattle.pgo_shell.specs.Laws.{read_at}
use Rattle.pgo_shell.specs.Promises.{Promises}
use Rattle.pgo_shell.specs.Shell.{Delivers, FaultsRose, text_of}
use Rattle.pgo_shell.specs.World.{World}
use Rattle.pgo_shell.specs.declared.status.Status.{Status}
use Rattle.pgo_shell.specs.declared.status.Status.TheVariants as status
use Rattle.command_texts.specs.Program.{IsTheProgram}
use Rattle.command_lines.specs.TextAt.{text_at}
use Rattle.command_print.specs.Print.{PrintFiles, PrintStands, print_made, print_task}

-- what was delivered is a `print` in its own words
pub print_stands : (f : PrintFiles) (old new : World) → old.tells → Delivers (print_task f) old new (Ok tt) → PrintStands f old new
print_stands f old new told (worked, delivered) =
    let (m, the, makes) = worked.judged in
    record {
      program = text_at worked.texts 0;
      program_is = read_at old.files (f.«module» ∷ []) worked.texts 0 f.«module» worked.read refl;
      m = m;
      spelled = the.is;
      put = λ shown. delivered.1 shown ∙ ap (λ (made : Made). old.put ++ made.output) makes;
      kept = delivered.2 told;
    }

-- a program is printed, unless a fault rose or memory ran out
pub print_finishes : (f : PrintFiles) (old new : World) (s : Status) → Promises (print_task f) old new s → old.tells →
    (program : List ℕ) (m : Module) → text_of old.files f.«module» ≡ Some program → IsTheProgram program m → (FaultsRose (print_task f) old new → ⊥) →
    (s ≡ status.Done) ⊎ (s ≡ status.Memory)
print_finishes f old new s promises told program m program_is the quiet =
    promises.finishes (program ∷ []) (print_made m) told (ap (λ a. a ∷ []) program_is) (m, the, refl) quiet
