use Rattle.std.proofs.Common.{◌≡◌}
use Rattle.prof_merge.proofs.parts.read_counters.Given as goal

abbrev pub invariant-loop-counter : goal.invariant-loop-counter
invariant-loop-counter l = l.counters.items ≡ l.yielded
