use Rattle.std.proofs.Common.{◌+◌, ◌*◌}
use Rattle.prof_view.proofs.sites.+kinds.Given as goal

abbrev pub decreases-kinds : goal.decreases-kinds
decreases-kinds l = 2 * l.left

abbrev pub decreases-more_kinds : goal.decreases-more_kinds
decreases-more_kinds l = 2 * l.left + 1
