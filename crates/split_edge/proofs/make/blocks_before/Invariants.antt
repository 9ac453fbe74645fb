use Rattle.std.proofs.Common.{◌≡◌, ◌-◌, ◌++◌}
use Rattle.count_plan.specs.Ways.{no_block_plan}
use Rattle.edge_split.specs.Split.{at_place}
use Rattle.split_edge.proofs.make.blocks_before.Given as goal

abbrev pub invariant-loop-done : goal.invariant-loop-done
invariant-loop-done l = l.plans.items ++ at_place no_block_plan (l.count - l.done) l.last ≡ at_place no_block_plan l.count l.last
