use Rattle.std.proofs.Common.{◌≡◌, take}
use Rattle.ir_code.specs.Units.{counters_of_all}
use Rattle.ir_code.proofs.units.counter_total.Given as goal

abbrev pub invariant-loop-tally : goal.invariant-loop-tally
invariant-loop-tally l = l.total ≡ counters_of_all (take l.tally-index l.tallies)
