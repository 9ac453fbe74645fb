use Rattle.std.proofs.Common.{◌≡◌, ◌++◌, drop}
use Rattle.count_plan.specs.Counted.{new_blocks, put_on}
use Rattle.count_plan.specs.Ways.{new_at}
use Rattle.ir_tree.specs.Successors.{successors}
use Rattle.spec_lists.specs.Each.{each}
use Rattle.count_insert.proofs.ways.new_blocks.Given as goal

abbrev pub invariant-loop-position : goal.invariant-loop-position
invariant-loop-position l =
    l.made.items ++ each (λ p to. put_on l.unit to (new_at l.plan p)) l.position (drop l.position (successors l.block.term)) ≡ new_blocks l.unit l.plan l.block
