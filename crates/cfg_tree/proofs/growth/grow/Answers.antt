use Rattle.std.proofs.Common.{length, ap}
use Rattle.cfg_tree.proofs.Counting.{beside_at}
use Rattle.cfg_tree.proofs.Graphs.{heads_below, tails_below}
use Rattle.cfg_tree.proofs.Spanned.{edges_in, spans_at}
use Rattle.cfg_tree.proofs.Weighing.{length_weights}
use Rattle.cfg_tree.proofs.Whole.{tree_is}
use Rattle.cfg_tree.proofs.growth.grow.Goals as goal

pub order_of-requires-clause-tails : goal.order_of-requires-clause-tails
order_of-requires-clause-tails c = tails_below c.args.graph.now c.edges-edges.result.now c.nodes.result c.edges-edges.ensures.whole c.edges-edges.ensures.value c.nodes.ensures.count

pub order_of-requires-clause-heads : goal.order_of-requires-clause-heads
order_of-requires-clause-heads c = heads_below c.args.graph.now c.edges-edges.result.now c.nodes.result c.edges-edges.ensures.whole c.edges-edges.ensures.value c.nodes.ensures.count

pub order_of-requires-clause-weights : goal.order_of-requires-clause-weights
order_of-requires-clause-weights c = length_weights c.args.graph.now c.args.entry_first c.edges-edges.result.now c.as_slice.result.now c.in_ok-weights.weights.items c.as_slice.ensures.value c.in_ok-weights.ensures c.edges-edges.ensures.value

pub counted_edges-requires-clause-order : goal.counted_edges-requires-clause-order
counted_edges-requires-clause-order c = edges_in c.args.graph.now c.edges-edges.result.now c.as_slice.result.now c.as_slice-2.result.now c.in_ok-order.order.items c.edges-edges.ensures.whole c.edges-edges.ensures.value c.as_slice-2.ensures.value c.in_ok-order.ensures

pub returns-clause-spans : goal.returns-clause-spans
returns-clause-spans c = spans_at c.args.graph.now c.edges-edges.result.now c.as_slice.result.now c.as_slice-2.result.now c.in_ok-order.order.items c.edges-edges.ensures.whole c.edges-edges.ensures.value c.as_slice-2.ensures.value c.in_ok-order.ensures c.of.result c.of.ensures

pub returns-clause-beside : goal.returns-clause-beside
returns-clause-beside c = beside_at (length c.edges-edges.result.now) (length c.args.graph.now.edges) c.of.result c.in_ok-order.order.items c.of-2.result c.in_ok-counted.counted.items c.as_slice-2.result.now c.args.entry_first (ap length c.edges-edges.ensures.value) c.of.ensures c.as_slice-2.ensures.value c.of-2.ensures c.in_ok-counted.ensures

pub returns-clause-value : goal.returns-clause-value
returns-clause-value c = tree_is c.args.graph.now c.args.entry_first c.edges-edges.ensures.whole c.edges-edges.result.now c.as_slice.result.now c.in_ok-weights.weights.items c.in_ok-order.order.items c.as_slice-2.result.now c.of.result c.of-2.result c.in_ok-counted.counted.items c.edges-edges.ensures.value c.as_slice.ensures.value c.in_ok-weights.ensures c.in_ok-order.ensures c.as_slice-2.ensures.value c.of.ensures c.of-2.ensures c.in_ok-counted.ensures
