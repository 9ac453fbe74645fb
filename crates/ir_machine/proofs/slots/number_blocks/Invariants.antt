use Rattle.std.proofs.Common.{◌≡◌, ◌+◌, ◌++◌, drop}
use Rattle.std.specs.Prelude.{sum_by}
use Rattle.ir_tree.specs.Successors.{ways_out}
use Rattle.ir_machine.specs.Slots.{block_slots}
use Rattle.ir_machine.proofs.slots.number_blocks.Given as goal

abbrev pub invariant-loop-block : goal.invariant-loop-block
invariant-loop-block l =
    (l.slots.items ++ block_slots l.next (drop l.block-index l.blocks) ≡ block_slots l.initial.next l.blocks)
    × (l.next + sum_by ways_out (drop l.block-index l.blocks) ≡ l.initial.next + sum_by ways_out l.blocks)
