use Rattle.std.proofs.Common.{◌≡◌}
use Rattle.prof_merge.proofs.parts.targets_read.Given as goal

abbrev pub invariant-loop-target : goal.invariant-loop-target
invariant-loop-target l = l.targets.items ≡ l.yielded
