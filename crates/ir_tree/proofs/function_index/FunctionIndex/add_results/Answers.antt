use Rattle.std.proofs.Common.{◌++◌, take}
use Rattle.spec_lists.specs.Each.{each}
use Rattle.ir_tree.specs.Locals.{result_at}
use Rattle.ir_tree.proofs.Entries.{indexes_further}
use Rattle.ir_tree.proofs.function_index.FunctionIndex.add_results.Goals as goal

pub loop-i-preserved : goal.loop-i-preserved
loop-i-preserved c es made = indexes_further (result_at c.args.b) c.add_result.new.self es c.args.instrs.now c.loop-i.i c.index-instrs-i.result c.loop-i-test.true c.index-instrs-i.is (c.in_ok-add_result.ensures (es ++ each (result_at c.args.b) 0 (take c.loop-i.i c.args.instrs.now)) (c.loop-i.invariant es made))
