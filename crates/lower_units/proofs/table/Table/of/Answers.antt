use Rattle.std.proofs.Common.{List, None, ap, ◌∙◌}
use Rattle.ir_tree.specs.declared.types.Block.{Block}
use Rattle.ir_tree.specs.declared.types.Function.{Function}
use Rattle.lower_units.proofs.Gathering.{flat_further}
use Rattle.lower_units.specs.Table.{told_at}
use Rattle.lower_units.specs.Told.{told_after}
use Rattle.lowering.specs.Asked.{asked_in}
use Rattle.lower_units.proofs.table.Table.of.Goals as goal

pub loop-function-preserved : goal.loop-function-preserved
loop-function-preserved c q =
    flat_further q None (told_at c.loop-function.made q) (told_at c.add_blocks.new.self q) (λ (f : Function). asked_in f.blocks) c.args.functions.now c.loop-function.function-index c.function-item.result c.loop-function-test.true c.function-item.is (c.loop-function.invariant q)
    (c.in_ok-add_blocks.ensures q ∙ ap (λ (bs : List Block). told_after q (told_at c.loop-function.made q) (asked_in bs)) c.as_slice.ensures)
