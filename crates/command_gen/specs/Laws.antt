-- What stands after a `gen`, and when it ends well, in its own words.
use Rattle.std.proofs.Common.{◌≡◌, ◌⊎◌, ℕ, List, [], ◌∷◌, Some, Ok, refl, ap}
use Rattle.gen_plan.specs.Gen.{counted}
use Rattle.ir_rules.specs.Kinds.{kind_of}
use Rattle.ir_rules.specs.declared.place.Kind.TheVariants.{Plain}
use Rattle.ir_tree.specs.declared.types.Module.{Module}
use Rattle.pgo_shell.specs.Laws.{read_at}
use Rattle.pgo_shell.specs.Promises.{Promises}
use Rattle.pgo_shell.specs.Shell.{Delivers, FaultsRose, text_of}
use Rattle.pgo_shell.specs.World.{World}
use Rattle.pgo_shell.specs.declared.status.Status.{Status}
use Rattle.pgo_shell.specs.declared.status.Status.TheVariants as status
use Rattle.command_lines.specs.TextAt.{text_at}
use Rattle.command_texts.specs.Program.{IsTheProgram}
use Rattle.command_written.specs.Laws.{module_stands}
use Rattle.command_written.specs.Written.{module_made}
use Rattle.command_gen.specs.Gen.{GenFiles, GenStands, PlainAreMade, gen_task}

-- what was delivered is a `gen` in its own words
pub gen_stands : PlainAreMade → (f : GenFiles) (old new : World) → old.tells → Delivers (gen_task f) old new (Ok tt) → GenStands f old new
gen_stands made f old new told (worked, delivered) =
    let (m, the, (u, plain, makes)) = worked.judged in
    record {
      program = text_at worked.texts 0;
      program_is = read_at old.files (f.«module» ∷ []) worked.texts 0 f.«module» worked.read refl;
      m = m;
      spelled = the.is;
      plain = plain;
      made = made f.entry_first m the.is.accepted plain;
      stands = module_stands f.out (counted f.entry_first m) worked.made old new told makes delivered;
    }

-- a plain program is counted, unless a fault rose or memory ran out
pub gen_finishes : (f : GenFiles) (old new : World) (s : Status) → Promises (gen_task f) old new s → old.tells →
    (program : List ℕ) (m : Module) → text_of old.files f.«module» ≡ Some program → IsTheProgram program m → kind_of m.functions ≡ Plain →
    (FaultsRose (gen_task f) old new → ⊥) → (s ≡ status.Done) ⊎ (s ≡ status.Memory)
gen_finishes f old new s promises told program m program_is the plain quiet =
    promises.finishes (program ∷ []) (module_made (counted f.entry_first m)) told (ap (λ a. a ∷ []) program_is)
    (m, the, (tt, plain, refl)) quiet
