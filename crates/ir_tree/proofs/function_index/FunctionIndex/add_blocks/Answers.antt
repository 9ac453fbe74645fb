use Rattle.std.proofs.Common.{◌++◌, take}
use Rattle.spec_lists.specs.Each.{each}
use Rattle.ir_tree.specs.Locals.{block_locals}
use Rattle.ir_tree.proofs.Entries.{indexes_further}
use Rattle.ir_tree.proofs.function_index.FunctionIndex.add_blocks.Goals as goal

pub loop-b-preserved : goal.loop-b-preserved
loop-b-preserved c es made = indexes_further block_locals c.add_block.new.self es c.args.blocks.now c.loop-b.b c.index-blocks-b.result c.loop-b-test.true c.index-blocks-b.is (c.in_ok-add_block.ensures (es ++ each block_locals 0 (take c.loop-b.b c.args.blocks.now)) (c.loop-b.invariant es made))
