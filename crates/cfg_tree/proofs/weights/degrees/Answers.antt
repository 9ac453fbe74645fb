use Rattle.std.proofs.Common.{arith}
use Rattle.cfg_tree.proofs.Degrees.{few_at, one_more_at}
use Rattle.cfg_tree.proofs.weights.degrees.Goals as goal

pub overflow_add-index_mut : goal.overflow_add-index_mut
overflow_add-index_mut c = let few = few_at c.args.end c.args.edges.now c.args.nodes c.loop-edge.degrees.items c.loop-edge.edge-index c.end_of.result c.index_mut.result.now c.loop-edge-test.true c.requires.ends c.end_of.ensures c.loop-edge.invariant c.index_mut.ensures.value in omega arith

pub loop-edge-preserved : goal.loop-edge-preserved
loop-edge-preserved c = one_more_at c.args.end c.args.edges.now c.args.nodes c.loop-edge.degrees.items c.loop-edge.edge-index c.end_of.result c.index_mut.result.now c.loop-edge-test.true c.requires.ends c.end_of.ensures c.loop-edge.invariant c.index_mut.ensures.value
