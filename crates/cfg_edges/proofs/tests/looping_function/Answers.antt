use Rattle.cfg_edges.proofs.Worked.{looping_made}
use Rattle.cfg_edges.proofs.tests.looping_function.Goals as goal

pub returns : goal.returns
returns c = looping_made c.function.result c.in_ok-blocks.blocks.items c.function.ensures c.in_ok-blocks.ensures
