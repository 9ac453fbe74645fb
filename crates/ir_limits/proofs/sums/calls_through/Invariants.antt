use Rattle.std.proofs.Common.{◌≡◌, take, sum_by}
use Rattle.ir_rules.specs.Limits.{cells_of, counters, reported, told_counters, told_sites, total_of}
use Rattle.ir_tree.specs.Graphs.{is_site}
use Rattle.ir_limits.proofs.sums.calls_through.Given as goal

abbrev pub invariant-loop-f : goal.invariant-loop-f
invariant-loop-f l = l.total ≡ reported (sum_by (total_of is_site) (take l.f-index l.functions))
