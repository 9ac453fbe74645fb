use Rattle.std.proofs.Common.{List, filter_map, ap, ◌∙◌}
use Rattle.ir_tree.specs.declared.types.Block.{Block}
use Rattle.ir_tree.specs.declared.types.Instr.{Instr}
use Rattle.lower_units.proofs.Searching.{part_found, part_past}
use Rattle.lower_units.specs.Faults.{first_fault, shown}
use Rattle.lower_units.specs.Table.{told_at}
use Rattle.lowering.specs.Asked.{asked}
use Rattle.lower_units.proofs.faults.first_in_blocks.Goals as goal

pub returns-in-Some : goal.returns-in-Some
returns-in-Some c =
    part_found (told_at c.args.table.now) (λ (b : Block). filter_map asked b.instrs) c.args.blocks.now c.loop-block.block-index c.block-item.result (shown c.in-Some.fault) c.loop-block-test.true c.block-item.is
    (c.in-Some.ensures ∙ ap (λ (is : List Instr). first_fault (told_at c.args.table.now) (filter_map asked is)) c.as_slice.ensures) ∙ c.loop-block.invariant

pub loop-block-preserved : goal.loop-block-preserved
loop-block-preserved c =
    part_past (told_at c.args.table.now) (λ (b : Block). filter_map asked b.instrs) c.args.blocks.now c.loop-block.block-index c.block-item.result c.loop-block-test.true c.block-item.is
    (c.in_default.ensures ∙ ap (λ (is : List Instr). first_fault (told_at c.args.table.now) (filter_map asked is)) c.as_slice.ensures) ∙ c.loop-block.invariant
