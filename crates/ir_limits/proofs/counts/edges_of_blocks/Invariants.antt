use Rattle.std.proofs.Common.{◌≡◌, ◌+◌, take, sum_by}
use Rattle.ir_rules.specs.Limits.{reported}
use Rattle.ir_tree.specs.Successors.{ways_out}
use Rattle.ir_limits.proofs.counts.edges_of_blocks.Given as goal

abbrev pub invariant-loop-block : goal.invariant-loop-block
invariant-loop-block l = l.total ≡ reported (1 + sum_by ways_out (take l.block-index l.blocks))
