use Rattle.std.proofs.Common.{◌≡◌, take}
use Rattle.ir_rules.specs.Limits.{reported}
use Rattle.ir_limits.specs.Tally.{is_counted}
use Rattle.ir_tree.specs.Graphs.{count_in}
use Rattle.ir_limits.proofs.counts.count_in.Given as goal

abbrev pub invariant-loop-block : goal.invariant-loop-block
invariant-loop-block l = l.total ≡ reported (count_in (is_counted l.counted) (take l.block-index l.blocks))
