-- What `chain MODULE CALLS` makes of a module and its calls.
use Rattle.std.specs.Prelude.{◌≡◌, ℕ, List, [], ◌++◌, Option, Some, None}
use Rattle.std.proofs.Common.{sym, ◌∙◌}
use Rattle.ir_tree.specs.declared.types.Module.{Module}
use Rattle.ir_model.specs.declared.result.Call.{Call}
use Rattle.ir_model.specs.Log.{traversals_of_all}
use Rattle.pgo_shell.specs.Judgement.{Made, Whole}
use Rattle.pgo_shell.specs.Shell.{Task}
use Rattle.pgo_shell.specs.World.{World}
use Rattle.command_texts.specs.Program.{is_plain}
use Rattle.command_run.specs.OnCalls.{CallFiles, CallsStand, calls_task, texts_judgement}
use Rattle.command_run.specs.Outcomes.{first_unreturned, outcomes}
use Rattle.command_chain.specs.Report.{Count, report}

-- how often the runs of the calls walk an edge of function k
abbrev pub walks : Module → ℕ → List Call → Count
walks m steps calls k e = traversals_of_all m k e.block e.position calls steps

-- the outcomes, and then the report where every call returned
abbrev pub ChainPuts : Module → ℕ → List Call → Option (List ℕ) → List ℕ → Type 0
ChainPuts m steps calls None output = output ≡ outcomes m steps 0 calls ++ report (walks m steps calls) 0 m.functions
ChainPuts m steps calls (Some line) output = output ≡ outcomes m steps 0 calls

pub record ChainMakes (m : Module) (steps : ℕ) (calls : List Call) (made : Made) : Type 0 where
  pub halted : made.halted ≡ first_unreturned m steps 0 calls
  pub puts : ChainPuts m steps calls made.halted made.output
  pub written : made.written ≡ []

-- a module and its calls fix whether it halts
pub chain_agrees : (m : Module) (steps : ℕ) (calls : List Call) (a b : Made) → ChainMakes m steps calls a → ChainMakes m steps calls b → a.halted ≡ b.halted
chain_agrees m steps calls a b p q = p.halted ∙ sym q.halted

-- ---- the command

abbrev pub chain_judgement : CallFiles → List ℕ → List ℕ → Whole
chain_judgement = texts_judgement is_plain ChainMakes chain_agrees

abbrev pub chain_task : CallFiles → Task
chain_task = calls_task is_plain ChainMakes chain_agrees

-- the outcomes of the calls, and then the report, in which each edge of each defined function has the number of times that
-- the runs of the calls walk it
abbrev pub chain_puts : Module → ℕ → List Call → List ℕ
chain_puts m steps calls = outcomes m steps 0 calls ++ report (walks m steps calls) 0 m.functions

-- what stands after a `chain` that ended well
abbrev pub ChainStands : CallFiles → World → World → Type 0
ChainStands = CallsStand is_plain chain_puts
