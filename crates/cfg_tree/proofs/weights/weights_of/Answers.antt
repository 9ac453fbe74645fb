use Rattle.spanning_order.specs.Spanning.{edge_at}
use Rattle.cfg_tree.specs.Walk.{walked}
use Rattle.cfg_tree.proofs.Weighing.{one_more_weight, tested}
use Rattle.cfg_tree.proofs.weights.weights_of.Goals as goal

pub loop-k-preserved : goal.loop-k-preserved
loop-k-preserved c = one_more_weight c.args.entry_first c.args.edges.now c.args.nodes (walked c.args.nodes c.args.edges.now).back c.in_ok-back.back.items c.in_ok-outs.outs.items c.in_ok-ins.ins.items
    c.requires.tails c.requires.heads c.in_ok-outs.ensures c.in_ok-ins.ensures c.in_ok-back.ensures.back c.in_ok-back.ensures.size
    c.loop-k.k c.loop-k-test.true c.is_critical-critical.result c.index.result.now c.base_weight-base.result c.scaled.result
    (tested c.is_critical-critical.result c.as_slice.result.now c.as_slice-in-loop-k.result.now c.in_ok-outs.outs.items c.in_ok-ins.ins.items (edge_at c.args.edges.now c.loop-k.k).from (edge_at c.args.edges.now c.loop-k.k).to c.is_critical-critical.ensures c.as_slice.ensures.value c.as_slice-in-loop-k.ensures.value)
    c.index.ensures c.base_weight-base.ensures.weight c.scaled.ensures c.loop-k.weights.items c.push.new.self.items c.loop-k.invariant c.in_ok-push.ensures.items
