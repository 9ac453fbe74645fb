use Rattle.cfg_tree.proofs.Graphs.{heads_below, tails_below}
use Rattle.cfg_tree.proofs.weights.static_weights.Goals as goal

pub weights_of-requires-clause-tails : goal.weights_of-requires-clause-tails
weights_of-requires-clause-tails c = tails_below c.args.graph.now c.edges.result.now c.nodes.result c.edges.ensures.whole c.edges.ensures.value c.nodes.ensures.count

pub weights_of-requires-clause-heads : goal.weights_of-requires-clause-heads
weights_of-requires-clause-heads c = heads_below c.args.graph.now c.edges.result.now c.nodes.result c.edges.ensures.whole c.edges.ensures.value c.nodes.ensures.count
