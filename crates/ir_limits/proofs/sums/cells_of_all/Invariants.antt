use Rattle.std.proofs.Common.{◌≡◌, take, sum_by}
use Rattle.ir_rules.specs.Limits.{cells_of, counters, reported, told_counters, told_sites, total_of}
use Rattle.ir_tree.specs.Graphs.{is_site}
use Rattle.ir_limits.proofs.sums.cells_of_all.Given as goal

abbrev pub invariant-loop-g : goal.invariant-loop-g
invariant-loop-g l = l.total ≡ reported (sum_by (cells_of l.kind) (take l.g-index l.globals))
