-- What stands after a command on a module and calls of it, and when it ends well.
use Rattle.std.proofs.Common.{◌≡◌, ◌⊎◌, ℕ, ◌+◌, List, [], ◌∷◌, ◌++◌, Option, Some, None, Ok, refl, sym, ap, ap₂, ◌∙◌, subst}
use Rattle.std.specs.Prelude.{All}
use Rattle.ir_tree.specs.declared.types.Module.{Module}
use Rattle.ir_model.specs.declared.result.Call.{Call}
use Rattle.pgo_shell.specs.Judgement.{Made, Part}
use Rattle.pgo_shell.specs.Laws.{read_at}
use Rattle.pgo_shell.specs.Promises.{Promises, status_for}
use Rattle.pgo_shell.specs.Shell.{Delivers, FaultsRose, text_of}
use Rattle.pgo_shell.specs.World.{World}
use Rattle.pgo_shell.specs.declared.status.Status.{Status}
use Rattle.pgo_shell.specs.declared.status.Status.TheVariants as status
use Rattle.command_texts.specs.Calls.{MakesCalls}
use Rattle.command_texts.specs.Program.{IsTheProgram}
use Rattle.command_lines.specs.TextAt.{text_at}
use Rattle.command_run.specs.OnCalls.{CallFiles, CallsStand, calls_task}
use Rattle.command_run.specs.OutcomeLaws.{all_returned}
use Rattle.command_run.specs.Outcomes.{HasReturned, first_unreturned}

module _ (takes : List ℕ → Module → Part (Unit {0})) (Makes : Module → ℕ → List Call → Made → Type 0) (agrees : (m : Module) (steps : ℕ) (calls : List Call) (a b : Made) → Makes m steps calls a → Makes m steps calls b → a.halted ≡ b.halted) where
  -- where it halts exactly at a call that did not return, and else puts this, what was delivered stands in its own words
  pub calls_stand : (puts : Module → ℕ → List Call → List ℕ)
      (halts : (m : Module) (steps : ℕ) (calls : List Call) (made : Made) → Makes m steps calls made → made.halted ≡ first_unreturned m steps 0 calls)
      (shows : (m : Module) (steps : ℕ) (calls : List Call) (made : Made) → Makes m steps calls made → made.halted ≡ None → made.output ≡ puts m steps calls)
      (f : CallFiles) (old new : World) → old.tells → Delivers (calls_task takes Makes agrees f) old new (Ok tt) → CallsStand takes puts f old new
  calls_stand puts halts shows f old new told (worked, delivered) =
      let (m, the, rest) = worked.judged in
      let (u, runs, found) = rest in
      let (calls, listed, makes) = found in
      let output = shows m f.steps calls worked.made makes delivered.0 in
      record {
        program = text_at worked.texts 0;
        list = text_at worked.texts 1;
        program_is = read_at old.files (f.«module» ∷ f.calls ∷ []) worked.texts 0 f.«module» worked.read refl;
        list_is = read_at old.files (f.«module» ∷ f.calls ∷ []) worked.texts 1 f.calls worked.read refl;
        m = m;
        made = calls;
        spelled = the.is;
        taken = runs;
        listed = listed;
        returned = all_returned m f.steps 0 calls (sym (halts m f.steps calls worked.made makes) ∙ delivered.0);
        put = λ shown. delivered.1 shown ∙ ap (λ (o : List ℕ). old.put ++ o) output;
        kept = delivered.2 told;
      }

  -- a program and calls of which something is made that does not halt is done, unless a fault rose or memory ran out
  pub calls_finish : (f : CallFiles) (old new : World) (s : Status) → Promises (calls_task takes Makes agrees f) old new s → old.tells →
      (program list : List ℕ) (m : Module) (calls : List Call) → text_of old.files f.«module» ≡ Some program → text_of old.files f.calls ≡ Some list →
      IsTheProgram program m → (takes f.«module» m).finds tt → MakesCalls list m calls → (made : Made) → Makes m f.steps calls made → made.halted ≡ None →
      (FaultsRose (calls_task takes Makes agrees f) old new → ⊥) → (s ≡ status.Done) ⊎ (s ≡ status.Memory)
  calls_finish f old new s promises told program list m calls program_is list_is the runs listed made makes none quiet =
      subst (λ (halt : Option (List ℕ)). (s ≡ status_for halt) ⊎ (s ≡ status.Memory)) none
      (promises.finishes (program ∷ list ∷ []) made told (ap₂ (λ a b. a ∷ b ∷ []) program_is list_is) (m, the, (tt, runs, (calls, listed, makes))) quiet)
