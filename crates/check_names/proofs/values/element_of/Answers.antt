use Rattle.check_names.proofs.Arrays.{element_array}
use Rattle.check_names.proofs.values.element_of.Goals as goal

pub returns-in-Array : goal.returns-in-Array
returns-in-Array c = element_array c.args.mem.now c.in-Array.count c.in-Array.element c.get.result.now c.in-Array.is c.get.ensures
