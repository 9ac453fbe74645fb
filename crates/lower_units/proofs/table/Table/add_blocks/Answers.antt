use Rattle.std.proofs.Common.{List, filter_map, ap, ◌∙◌}
use Rattle.ir_tree.specs.declared.types.Block.{Block}
use Rattle.ir_tree.specs.declared.types.Instr.{Instr}
use Rattle.lower_units.proofs.Gathering.{flat_further}
use Rattle.lower_units.specs.Table.{told_at}
use Rattle.lower_units.specs.Told.{told_after}
use Rattle.lowering.specs.Asked.{asked}
use Rattle.lower_units.proofs.table.Table.add_blocks.Goals as goal

pub loop-block-preserved : goal.loop-block-preserved
loop-block-preserved c q =
    flat_further q (told_at c.args.self.now q) (told_at c.loop-block.self q) (told_at c.add_instrs.new.self q) (λ (b : Block). filter_map asked b.instrs) c.args.blocks.now c.loop-block.block-index c.block-item.result c.loop-block-test.true c.block-item.is (c.loop-block.invariant q)
    (c.in_ok-add_instrs.ensures q ∙ ap (λ (is : List Instr). told_after q (told_at c.loop-block.self q) (filter_map asked is)) c.as_slice.ensures)
