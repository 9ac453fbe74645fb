use Rattle.check_operands.proofs.Enter.{at_array}
use Rattle.check_operands.proofs.types.enter.Goals as goal

pub loop-index-preserved : goal.loop-index-preserved
loop-index-preserved c = at_array c.loop-index.inner.now c.args.mem.now c.get-inner.result.now c.in-Array.count c.in-Array.element c.args.indices.now c.loop-index._index-index c.in-Array.is c.get-inner.ensures c.loop-index-test.true c.loop-index.invariant
