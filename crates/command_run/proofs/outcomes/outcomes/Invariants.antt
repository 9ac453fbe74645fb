use Rattle.std.proofs.Common.{◌≡◌, ◌++◌, drop}
use Rattle.std.specs.Option.{option_map}
use Rattle.pgo_shell.specs.Product.{bytes_of}
use Rattle.command_run.specs.Outcomes.{or_else}
use Rattle.command_run.specs.Told.{first_told, told_from}
use Rattle.command_run.proofs.outcomes.outcomes.Given as goal

-- what is left of the calls, after what was made so far, gives what all of them give
abbrev pub invariant-loop-number : goal.invariant-loop-number
invariant-loop-number l = record {
  put : l.output.items ++ told_from l.functions l.number (drop l.number l.calls) (drop l.number l.results) ≡ told_from l.functions 0 l.calls l.results;
  halts : or_else (option_map bytes_of l.halted) (first_told l.number (drop l.number l.results)) ≡ first_told 0 l.results;
}
