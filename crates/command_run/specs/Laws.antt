-- What stands after a `run`, and when it ends well, in its own words.
use Rattle.std.proofs.Common.{◌≡◌, ◌⊎◌, inl, inr, ℕ, Bool, List, [], ◌∷◌, ◌++◌, Option, Some, None, Ok, refl, sym, ap, ◌∙◌, subst}
use Rattle.std.specs.Prelude.{All, IsSome, length, take, zip}
use Rattle.ir_tree.specs.Functions.{numbered}
use Rattle.ir_tree.specs.declared.types.Module.{Module}
use Rattle.ir_model.specs.declared.result.Call.{Call}
use Rattle.ir_code.specs.Units.{tallies_of}
use Rattle.value_rows.specs.declared.row.Row.{Row}
use Rattle.pgo_base.specs.Outside.{Files, SameFiles}
use Rattle.pgo_shell.specs.Judgement.{Made, Whole}
use Rattle.pgo_shell.specs.Laws.{read_at}
use Rattle.pgo_shell.specs.Promises.{Promises}
use Rattle.pgo_shell.specs.Shell.{AreRead, Delivers, FaultsRose, after, text_of}
use Rattle.pgo_shell.specs.World.{World}
use Rattle.pgo_shell.specs.declared.status.Status.{Status}
use Rattle.pgo_shell.specs.declared.status.Status.TheVariants as status
use Rattle.command_lines.specs.TextAt.{text_at}
use Rattle.command_texts.specs.Calls.{MakesCalls}
use Rattle.command_texts.specs.Program.{IsTheProgram}
use Rattle.command_run.specs.OnCalls.{texts_judgement}
use Rattle.command_run.specs.OutcomeLaws.{all_returned, none_unreturned}
use Rattle.command_run.specs.Outcomes.{HasReturned, first_unreturned}
use Rattle.command_run.specs.Run.{AreProfiles, ProfileStands, RunFiles, RunStands, call_files, output_for, run_judgement, run_puts, run_task, takes_for, written_names}

profile_stands : (profile : Option (List ℕ)) (entry_first : Bool) (m : Module) (counters : List ℕ) (rows : List Row) (written : List (List ℕ)) (old new : Files) →
    AreProfiles profile entry_first (numbered m.functions) (tallies_of m) counters rows written → SameFiles (after (take (length (written_names profile)) (zip (written_names profile) written)) old) new →
    ProfileStands profile entry_first m counters rows old new
profile_stands None entry_first m counters rows written old new is kept = kept
profile_stands (Some name) entry_first m counters rows written old new (text, is, one) kept =
    (text, is, subst (λ (w : List (List ℕ)). SameFiles (after (take 1 (zip (name ∷ []) w)) old) new) one kept)

-- what was delivered is a `run` in its own words
pub run_stands : (f : RunFiles) (old new : World) → old.tells → Delivers (run_task f) old new (Ok tt) → RunStands f old new
run_stands f old new told (worked, delivered) =
    let (m, the, rest) = worked.judged in
    let (u, runs, found) = rest in
    let (calls, listed, makes) = found in
    let none : first_unreturned m f.steps 0 calls ≡ None = sym makes.halts ∙ delivered.0 in
    let output = makes.shows ∙ ap (λ (halt : Option (List ℕ)). output_for halt m f.steps calls makes.rows) none in
    record {
      program = text_at worked.texts 0;
      list = text_at worked.texts 1;
      program_is = read_at old.files (f.«module» ∷ f.calls ∷ []) worked.texts 0 f.«module» worked.read refl;
      list_is = read_at old.files (f.«module» ∷ f.calls ∷ []) worked.texts 1 f.calls worked.read refl;
      m = m;
      made = calls;
      spelled = the.is;
      taken = runs;
      listed = listed;
      returned = all_returned m f.steps 0 calls none;
      counters = makes.counters;
      rows = makes.rows;
      counted = makes.counted;
      noted = makes.noted;
      put = λ shown. delivered.1 shown ∙ ap (λ (o : List ℕ). old.put ++ o) output;
      stands = profile_stands f.profile f.entry_first m makes.counters makes.rows worked.made.written old.files new.files (makes.writes delivered.0) (delivered.2 told);
    }

-- ---- when it ends well

-- whether it halts, and no more
abbrev Halts : Module → ℕ → List Call → Made → Type 0
Halts m steps calls made = made.halted ≡ first_unreturned m steps 0 calls

halts_agree : (m : Module) (steps : ℕ) (calls : List Call) (a b : Made) → Halts m steps calls a → Halts m steps calls b → a.halted ≡ b.halted
halts_agree m steps calls a b p q = p ∙ sym q

abbrev nothing : Made
nothing = record { halted = None; output = []; written = [] }

abbrev halting : RunFiles → List ℕ → List ℕ → Whole
halting f = texts_judgement (takes_for f.profile) Halts halts_agree (call_files f)

not_some : (o : Option (List ℕ)) → o ≡ None → IsSome o → ⊥
not_some None e h = cc
not_some (Some x) e h = cc

-- a program of which all calls return is run to its end, unless a fault rose or memory ran out
pub run_finishes : (f : RunFiles) (old new : World) (s : Status) → Promises (run_task f) old new s → old.tells →
    (program list : List ℕ) (m : Module) (calls : List Call) → text_of old.files f.«module» ≡ Some program → text_of old.files f.calls ≡ Some list →
    IsTheProgram program m → (takes_for f.profile f.«module» m).finds tt → MakesCalls list m calls → All (HasReturned m f.steps) calls → (FaultsRose (run_task f) old new → ⊥) →
    (s ≡ status.Done) ⊎ (s ≡ status.Memory)
run_finishes f old new s promises told program list m calls program_is list_is the runs listed returned quiet = by s refl
  where
    -- the texts that were read
    read_texts : (texts : List (List ℕ)) → AreRead old.files (f.«module» ∷ f.calls ∷ []) texts → (halting f (text_at texts 0) (text_at texts 1)).finds nothing
    read_texts texts read =
        let first : program ≡ text_at texts 0 = some_same program (text_at texts 0) (sym program_is ∙ read_at old.files (f.«module» ∷ f.calls ∷ []) texts 0 f.«module» read refl) in
        let second : list ≡ text_at texts 1 = some_same list (text_at texts 1) (sym list_is ∙ read_at old.files (f.«module» ∷ f.calls ∷ []) texts 1 f.calls read refl) in
        subst (λ (t : List ℕ). (halting f t (text_at texts 1)).finds nothing) first
        (subst (λ (t : List ℕ). (halting f program t).finds nothing) second
        (m, the, (tt, runs, (calls, listed, sym (none_unreturned m f.steps 0 calls returned)))))
      where
        some_same : (a b : List ℕ) → Some a ≡ Some b → a ≡ b
        some_same a b e = cc

    halts_of : (texts : List (List ℕ)) (made : Made) → (run_judgement f (text_at texts 0) (text_at texts 1)).finds made → (halting f (text_at texts 0) (text_at texts 1)).finds made
    halts_of texts made (n, is, (u, taken, (cs, makes_calls, makes))) = (n, is, (u, taken, (cs, makes_calls, makes.halts)))

    by : (x : Status) → s ≡ x → (s ≡ status.Done) ⊎ (s ≡ status.Memory)
    by status.Done e = inl e
    by status.Memory e = inr e
    by status.Words e = absurd (promises.words e)
    by status.Outside e = absurd (quiet (promises.outside e))
    by status.Refused e =
        let (line, refused) = promises.refused e told in
        let (texts, read, refuses) = refused in
        absurd ((halting f (text_at texts 0) (text_at texts 1)).apart line nothing refuses (read_texts texts read))
    by status.NotReturned e =
        let halt = promises.not_returned e told in
        let worked = halt.0 in
        let none = (halting f (text_at worked.texts 0) (text_at worked.texts 1)).one worked.made nothing (halts_of worked.texts worked.made worked.judged) (read_texts worked.texts worked.read) in
        absurd (not_some worked.made.halted none halt.1)
