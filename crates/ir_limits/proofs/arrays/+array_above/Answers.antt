use Rattle.ir_limits.proofs.Sizes.{within_array}
use Rattle.ir_limits.proofs.arrays.+array_above.Goals as goal

pub returns-else-size-gt-OBJECT_MOST : goal.returns-else-size-gt-OBJECT_MOST
returns-else-size-gt-OBJECT_MOST t c = within_array c.args.mem.now c.in-Array.count c.in-Array.element c.size_of-size.result c.get.result.now c.array_above.result c.in-Array.is c.size_of-size.ensures c.if-size-gt-OBJECT_MOST.false c.get.ensures c.array_above.ensures
