-- What `run MODULE CALLS` makes of a module and its calls.
use Rattle.std.proofs.Common.{sym, ◌∙◌}
use Rattle.std.specs.Prelude.{◌≡◌, ℕ, Bool, List, [], ◌∷◌, ◌++◌, All, codes, Option, Some, None}
use Rattle.ir_tree.specs.Functions.{numbered}
use Rattle.ir_tree.specs.declared.types.Function.{Function}
use Rattle.ir_tree.specs.declared.types.Module.{Module}
use Rattle.ir_rules.specs.Kinds.{kind_of}
use Rattle.ir_rules.specs.declared.place.Kind.TheVariants.{Lowered}
use Rattle.ir_model.specs.declared.result.Call.{Call}
use Rattle.ir_model.specs.declared.probe.Tally.{Tally}
use Rattle.ir_code.specs.Units.{tallies_of}
use Rattle.value_rows.specs.declared.row.Row.{Row}
use Rattle.run_profile.specs.Ran.{AreCounted, AreNoted}
use Rattle.run_texts.specs.RunProfile.{IsRunText}
use Rattle.run_texts.specs.SiteLines.{site_lines}
use Rattle.pgo_base.specs.Outside.{Files, SameFiles}
use Rattle.pgo_shell.specs.Judgement.{Made, Part, Whole, demand}
use Rattle.pgo_shell.specs.Shell.{Task, text_of, with_file}
use Rattle.pgo_shell.specs.World.{World}
use Rattle.command_texts.specs.Calls.{MakesCalls}
use Rattle.command_texts.specs.Program.{IsProgram, kind_word, runs_as_it_is}
use Rattle.command_lines.specs.TextAt.{text_at}
use Rattle.command_run.specs.OnCalls.{CallFiles, texts_judgement}
use Rattle.command_run.specs.Outcomes.{HasReturned, first_unreturned, outcomes}

-- a `run` with its words: the files of the module and of the calls, the steps that each call is given, the places of a row, the file of
-- the profile where one is asked for, and its mode. How many workers there are is no part of it: they change nothing
pub record RunFiles : Type 0 where
  pub «module» : List ℕ
  pub calls : List ℕ
  pub steps : ℕ
  pub places : ℕ
  pub profile : Option (List ℕ)
  pub entry_first : Bool

-- ---- the module

-- the module of a file has counters, as it is to have where a profile is asked for
abbrev pub is_lowered : List ℕ → Module → Part (Unit {0})
is_lowered file m = demand (kind_of m.functions ≡ Lowered) (file ++ codes ": wrong kind " ++ kind_word (kind_of m.functions))

abbrev pub takes_for : Option (List ℕ) → List ℕ → Module → Part (Unit {0})
takes_for None = runs_as_it_is
takes_for (Some profile) = is_lowered

-- ---- what is made

-- the outcomes of the calls, and then what was kept at each site
abbrev pub run_puts : Module → ℕ → List Call → List Row → List ℕ
run_puts m steps calls rows = outcomes m steps 0 calls ++ site_lines (tallies_of m) rows

-- the output, by whether some call did not return: then it is the outcomes alone
abbrev pub output_for : Option (List ℕ) → Module → ℕ → List Call → List Row → List ℕ
output_for None m steps calls rows = run_puts m steps calls rows
output_for (Some line) m steps calls rows = outcomes m steps 0 calls

-- the profile's file, where one is asked for: the text of the profile of these counters and rows
abbrev pub AreProfiles : Option (List ℕ) → Bool → List Function → List Tally → List ℕ → List Row → List (List ℕ) → Type 0
AreProfiles None entry_first functions tallies counters rows files = files ≡ []
AreProfiles (Some profile) entry_first functions tallies counters rows files =
    (text : List ℕ) × IsRunText entry_first functions tallies counters rows text × (files ≡ text ∷ [])

-- the counters are what all calls add to each, and the rows are exact for all that they note; which keys are kept where more are asked
-- than a row has places is free
pub record RunMakes (places : ℕ) (profile : Option (List ℕ)) (entry_first : Bool) (m : Module) (steps : ℕ) (calls : List Call) (made : Made) : Type 0 where
  pub counters : List ℕ
  pub rows : List Row
  pub counted : AreCounted m steps calls counters
  pub noted : AreNoted m steps calls places rows
  pub halts : made.halted ≡ first_unreturned m steps 0 calls
  pub shows : made.output ≡ output_for (first_unreturned m steps 0 calls) m steps calls rows
  pub writes : made.halted ≡ None → AreProfiles profile entry_first (numbered m.functions) (tallies_of m) counters rows made.written

-- a module and its calls fix whether it halts
pub run_agrees : (places : ℕ) (profile : Option (List ℕ)) (entry_first : Bool) (m : Module) (steps : ℕ) (calls : List Call) (a b : Made) →
    RunMakes places profile entry_first m steps calls a → RunMakes places profile entry_first m steps calls b → a.halted ≡ b.halted
run_agrees places profile entry_first m steps calls a b p q = p.halts ∙ sym q.halts

-- ---- the command

abbrev pub call_files : RunFiles → CallFiles
call_files f = record { «module» = f.«module»; calls = f.calls; steps = f.steps }

abbrev pub run_judgement : RunFiles → List ℕ → List ℕ → Whole
run_judgement f = texts_judgement (takes_for f.profile) (RunMakes f.places f.profile f.entry_first) (run_agrees f.places f.profile f.entry_first) (call_files f)

abbrev pub written_names : Option (List ℕ) → List (List ℕ)
written_names None = []
written_names (Some profile) = profile ∷ []

abbrev pub run_task : RunFiles → Task
run_task f = record {
  reads = f.«module» ∷ f.calls ∷ [];
  writes = written_names f.profile;
  judges = λ texts. run_judgement f (text_at texts 0) (text_at texts 1);
}

-- where a profile was asked for, its file holds the text of the profile of these counters and rows; no other file changed
abbrev pub ProfileStands : Option (List ℕ) → Bool → Module → List ℕ → List Row → Files → Files → Type 0
ProfileStands None entry_first m counters rows old new = SameFiles old new
ProfileStands (Some profile) entry_first m counters rows old new =
    (text : List ℕ) × IsRunText entry_first (numbered m.functions) (tallies_of m) counters rows text × SameFiles (with_file old (profile, text)) new

-- What stands after a `run` that ended well: its files held a program of a kind that it takes and calls of it, and every call returned
-- within its steps; the outcomes and the site lines were put, and the profile is written where one was asked for. The counters are what
-- all calls add to each, and the rows are exact for all that they note
pub record RunStands (f : RunFiles) (old new : World) : Type 0 where
  pub program : List ℕ
  pub list : List ℕ
  pub program_is : text_of old.files f.«module» ≡ Some program
  pub list_is : text_of old.files f.calls ≡ Some list
  pub m : Module
  pub made : List Call
  pub spelled : IsProgram program m
  pub taken : (takes_for f.profile f.«module» m).finds tt
  pub listed : MakesCalls list m made
  pub returned : All (HasReturned m f.steps) made
  pub counters : List ℕ
  pub rows : List Row
  pub counted : AreCounted m f.steps made counters
  pub noted : AreNoted m f.steps made f.places rows
  pub put : old.shows → new.put ≡ old.put ++ run_puts m f.steps made rows
  pub stands : ProfileStands f.profile f.entry_first m counters rows old.files new.files
