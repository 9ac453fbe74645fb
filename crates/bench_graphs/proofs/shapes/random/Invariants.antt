use Rattle.std.proofs.Common.{◌<◌}
use Rattle.bench_graphs.proofs.shapes.random.Given as goal

abbrev pub invariant-loop-i : goal.invariant-loop-i
invariant-loop-i l = l.seed < 2147483648
