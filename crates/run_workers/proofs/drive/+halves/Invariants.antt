use Rattle.std.proofs.Common.{◌+◌, ◌*◌}
use Rattle.std.specs.Prelude.{max}
use Rattle.run_workers.proofs.drive.+halves.Given as goal

abbrev pub decreases-both_halves : goal.decreases-both_halves
decreases-both_halves g l = 3 * max l.first l.second + 2

abbrev pub decreases-drive : goal.decreases-drive
decreases-drive g l = 3 * l.workers

abbrev pub decreases-both_halves-join_mut+arg2 : goal.decreases-both_halves-join_mut+arg2
decreases-both_halves-join_mut+arg2 g l = 3 * l.first + 1

abbrev pub decreases-both_halves-join_mut+arg3 : goal.decreases-both_halves-join_mut+arg3
decreases-both_halves-join_mut+arg3 g l = 3 * l.second + 1
