use Rattle.ir_assigned.specs.Reads.{block_reads}
use Rattle.ir_tree.specs.FunctionNames.{indexed}
use Rattle.spec_lists.proofs.Each.{appended}
use Rattle.ir_assigned.proofs.reads.push_blocks.Goals as goal

pub loop-b-preserved : goal.loop-b-preserved
loop-b-preserved c = appended (block_reads (indexed c.args.known.now)) c.args.reads.now.items c.loop-b.reads.items c.push_block.new.reads.items c.args.blocks.now c.loop-b.b c.index-blocks-b.result c.loop-b-test.true c.index-blocks-b.is c.loop-b.invariant c.in_ok-push_block.ensures
