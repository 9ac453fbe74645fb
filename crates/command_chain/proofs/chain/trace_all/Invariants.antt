use Rattle.std.proofs.Common.{◌≡◌, ◌++◌, drop}
use Rattle.std.specs.Option.{option_map}
use Rattle.pgo_shell.specs.Product.{bytes_of}
use Rattle.command_run.specs.Outcomes.{first_unreturned, or_else, outcomes}
use Rattle.command_chain.proofs.ChainLemmas.{IsLow, Walked}
use Rattle.command_chain.proofs.chain.trace_all.Given as goal

-- what is left of the calls, after what was made and counted so far, gives what all of them give
abbrev pub invariant-loop-number : goal.invariant-loop-number
invariant-loop-number l = record {
  put : l.output.items ++ outcomes l.«module» l.steps l.number (drop l.number l.calls) ≡ outcomes l.«module» l.steps 0 l.calls;
  halts : or_else (option_map bytes_of l.halted) (first_unreturned l.«module» l.steps l.number (drop l.number l.calls)) ≡ first_unreturned l.«module» l.steps 0 l.calls;
  low : IsLow l.number l.counts;
  walked : Walked l.«module» l.steps l.calls (drop l.number l.calls) l.counts;
}
