use Rattle.std.proofs.Common.{◌++◌, take}
use Rattle.spec_lists.specs.Each.{each}
use Rattle.ir_tree.specs.Locals.{param}
use Rattle.ir_tree.proofs.Entries.{indexes_further}
use Rattle.ir_tree.proofs.function_index.FunctionIndex.add_params.Goals as goal

pub loop-i-preserved : goal.loop-i-preserved
loop-i-preserved c es made = indexes_further param c.add_param.new.self es c.args.params.now c.loop-i.i c.index-params-i.result c.loop-i-test.true c.index-params-i.is (c.in_ok-add_param.ensures (es ++ each param 0 (take c.loop-i.i c.args.params.now)) (c.loop-i.invariant es made))
