use Rattle.graph_tests.proofs.Whole.{switching_made}
use Rattle.graph_tests.proofs.tests.switching_function.Goals as goal

pub returns : goal.returns
returns c = switching_made c.function.result c.in_ok-blocks.blocks.items c.function.ensures c.in_ok-blocks.ensures
