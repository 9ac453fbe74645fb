-- What stands after a `chain`, and when it ends well, in its own words.
use Rattle.std.proofs.Common.{◌≡◌, ◌⊎◌, ℕ, List, [], Option, Some, None, Ok, refl, sym, subst}
use Rattle.std.specs.Prelude.{All}
use Rattle.ir_tree.specs.declared.types.Module.{Module}
use Rattle.ir_model.specs.declared.result.Call.{Call}
use Rattle.pgo_shell.specs.Judgement.{Made}
use Rattle.pgo_shell.specs.Promises.{Promises}
use Rattle.pgo_shell.specs.Shell.{Delivers, FaultsRose, text_of}
use Rattle.pgo_shell.specs.World.{World}
use Rattle.pgo_shell.specs.declared.status.Status.{Status}
use Rattle.pgo_shell.specs.declared.status.Status.TheVariants as status
use Rattle.command_texts.specs.Calls.{MakesCalls}
use Rattle.ir_rules.specs.Kinds.{kind_of}
use Rattle.ir_rules.specs.declared.place.Kind.TheVariants.{Plain}
use Rattle.command_texts.specs.Program.{IsTheProgram, is_plain}
use Rattle.command_run.specs.OnCalls.{CallFiles}
use Rattle.command_run.specs.OnCallsLaws.{calls_finish, calls_stand}
use Rattle.command_run.specs.OutcomeLaws.{none_unreturned}
use Rattle.command_run.specs.Outcomes.{HasReturned, first_unreturned}
use Rattle.command_chain.specs.Chain.{ChainMakes, ChainPuts, ChainStands, chain_agrees, chain_puts, chain_task}

chain_halts : (m : Module) (steps : ℕ) (calls : List Call) (made : Made) → ChainMakes m steps calls made → made.halted ≡ first_unreturned m steps 0 calls
chain_halts m steps calls made makes = makes.halted

chain_shows : (m : Module) (steps : ℕ) (calls : List Call) (made : Made) → ChainMakes m steps calls made → made.halted ≡ None → made.output ≡ chain_puts m steps calls
chain_shows m steps calls made makes none = subst (λ (h : Option (List ℕ)). ChainPuts m steps calls h made.output) none makes.puts

-- what was delivered is a `chain` in its own words
pub chain_stands : (f : CallFiles) (old new : World) → old.tells → Delivers (chain_task f) old new (Ok tt) → ChainStands f old new
chain_stands = calls_stand is_plain ChainMakes chain_agrees chain_puts chain_halts chain_shows

-- a plain program of which all calls return is counted to its end, unless a fault rose or memory ran out
pub chain_finishes : (f : CallFiles) (old new : World) (s : Status) → Promises (chain_task f) old new s → old.tells →
    (program list : List ℕ) (m : Module) (calls : List Call) → text_of old.files f.«module» ≡ Some program → text_of old.files f.calls ≡ Some list →
    IsTheProgram program m → kind_of m.functions ≡ Plain → MakesCalls list m calls → All (HasReturned m f.steps) calls →
    (FaultsRose (chain_task f) old new → ⊥) → (s ≡ status.Done) ⊎ (s ≡ status.Memory)
chain_finishes f old new s promises told program list m calls program_is list_is the plain listed returned quiet =
    let made : Made = record { halted = None; output = chain_puts m f.steps calls; written = [] } in
    let makes : ChainMakes m f.steps calls made = record { halted = sym (none_unreturned m f.steps 0 calls returned); puts = refl; written = refl } in
    calls_finish is_plain ChainMakes chain_agrees f old new s promises told program list m calls program_is list_is the plain listed made makes refl quiet
