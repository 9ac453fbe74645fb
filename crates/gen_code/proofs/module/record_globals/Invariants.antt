use Rattle.std.proofs.Common.{◌≡◌, take}
use Rattle.gen_code.specs.Planned.{record_globals}
use Rattle.gen_code.proofs.module.record_globals.Given as goal

abbrev pub invariant-loop-function : goal.invariant-loop-function
invariant-loop-function l = l.made.items ≡ record_globals (take l.function-index l.functions)
