-- The command that words ask for, of those that are built, and its task.
use Rattle.std.specs.Prelude.{ℕ, Bool, ◌&&◌, nat_le, if◌then◌else◌, length, List, Option, Some, None, option_and_then, codes}
use Rattle.pgo_words.specs.Plan.{Planned, RunWords, WalkWords, Annotates, Chains, Checks, CountsWalks, Generates, GrowsTree, LaysOut, ListsEdges, Lowers, MakesLarge, Merges, Prints, Promotes, Runs, Shows}
use Rattle.pgo_words.specs.Table.{planned}
use Rattle.pgo_shell.specs.Shell.{Task, error_line}
use Rattle.command_check.specs.Check.{CheckFiles, check_task}
use Rattle.command_gen.specs.Gen.{GenFiles, gen_task}
use Rattle.command_lower.specs.Lower.{LowerFiles, lower_task}
use Rattle.command_merge.specs.Merge.{MergeFiles, merge_task}
use Rattle.command_print.specs.Print.{PrintFiles, print_task}
use Rattle.command_run.specs.OnCalls.{CallFiles}
use Rattle.command_run.specs.Run.{RunFiles, run_task}
use Rattle.command_chain.specs.Chain.{chain_task}
use Rattle.command_show.specs.Show.{ShowFiles, show_task}

pub data Asked : Type 0 where
  AsksCheck : CheckFiles → Asked
  AsksPrint : PrintFiles → Asked
  AsksGen : GenFiles → Asked
  AsksLower : LowerFiles → Asked
  AsksRun : RunFiles → Asked
  AsksChain : CallFiles → Asked
  AsksMerge : MergeFiles → Asked
  AsksShow : ShowFiles → Asked

-- from 1 to 64
abbrev pub is_few : ℕ → Bool
is_few n = nat_le 1 n && nat_le n 64

-- from 1 to 24
abbrev pub is_place_count : ℕ → Bool
is_place_count n = nat_le 1 n && nat_le n 24

-- a `run` within the limits of words: so many steps, and 1 to 64 workers, who change nothing
abbrev pub run_asked : RunWords → Option Asked
run_asked w =
    if nat_le w.steps 1_099_511_627_776 && is_few w.workers && is_place_count w.places
    then Some (AsksRun (record { «module» = w.«module»; calls = w.calls; steps = w.steps; places = w.places; profile = w.profile; entry_first = w.entry_first }))
    else None

abbrev pub chain_asked : WalkWords → Option Asked
chain_asked w = if nat_le w.steps 1_099_511_627_776 then Some (AsksChain (record { «module» = w.«module»; calls = w.calls; steps = w.steps })) else None

-- a `merge` of 1 to 64 inputs by 1 to 64 workers, who change nothing
abbrev pub merge_asked : List ℕ → List (List ℕ) → ℕ → Option Asked
merge_asked out inputs workers = if is_few (length inputs) && is_few workers then Some (AsksMerge (record { out = out; inputs = inputs })) else None

-- what a plan asks for; the work of the other plans is not built
abbrev pub asked_by : Planned → Option Asked
asked_by (Checks file) = Some (AsksCheck (record { «module» = file }))
asked_by (Prints file) = Some (AsksPrint (record { «module» = file }))
asked_by (Generates file out first) = Some (AsksGen (record { «module» = file; out = out; entry_first = first }))
asked_by (Lowers file out) = Some (AsksLower (record { «module» = file; out = out }))
asked_by (Runs w) = run_asked w
asked_by (Merges out inputs workers) = merge_asked out inputs workers
asked_by (Shows file) = Some (AsksShow (record { input = file }))
asked_by (ListsEdges file profile) = None
asked_by (Annotates file profile out) = None
asked_by (Promotes file profile out) = None
asked_by (CountsWalks w) = chain_asked w
asked_by (Chains w) = None
asked_by (MakesLarge number workers places) = None
asked_by (LaysOut file profile out peel) = None
asked_by (GrowsTree file first) = None

-- what words ask for
abbrev pub asked : List (List ℕ) → Option Asked
asked words = option_and_then asked_by (planned words)

abbrev pub task_of : Asked → Task
task_of (AsksCheck f) = check_task f
task_of (AsksPrint f) = print_task f
task_of (AsksGen f) = gen_task f
task_of (AsksLower f) = lower_task f
task_of (AsksRun f) = run_task f
task_of (AsksChain f) = chain_task f
task_of (AsksMerge f) = merge_task f
task_of (AsksShow f) = show_task f

-- the line where words ask for no command
abbrev pub usage_line : List ℕ
usage_line = error_line (codes "usage: pgo COMMAND ARGUMENTS")
