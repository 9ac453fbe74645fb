use Rattle.cfg_edges.proofs.Worked.{selecting_made}
use Rattle.cfg_edges.proofs.tests.selecting_function.Goals as goal

pub returns : goal.returns
returns c = selecting_made c.function.result c.in_ok-blocks.blocks.items c.function.ensures c.in_ok-blocks.ensures
