use Rattle.std.proofs.Common.{◌-◌, ◌<◌, sym, subst, arith, length}
use Rattle.cfg_tree.proofs.Chained.{linked_at, linking_starts, all_linked, node_within}
use Rattle.cfg_tree.proofs.chains.link.Goals as goal

pub loop-k-init : goal.loop-k-init
loop-k-init c = record { within = omega arith; linking = linking_starts c.args.end c.args.edges.now c.args.first.now c.args.next.now c.requires.none c.requires.places }

pub loop-k-preserved : goal.loop-k-preserved
loop-k-preserved c = record {
  within = omega arith;
  linking = linked_at c.args.end c.args.edges.now c.loop-k.first c.loop-k.next c.loop-k.k (c.loop-k.k - 1) c.end_of-node.result c.loop-k.invariant.linking c.loop-k.invariant.within (omega arith) c.end_of-node.ensures
      (subst (λ n. c.end_of-node.result < n) (sym c.loop-k.auto.first) (node_within c.args.end c.args.edges.now (length c.args.first.now) (c.loop-k.k - 1) c.end_of-node.result c.requires.ends (omega arith) c.end_of-node.ensures));
}

pub returns : goal.returns
returns c = all_linked c.args.end c.args.edges.now (length c.args.first.now) c.loop-k.first c.loop-k.next c.loop-k.auto.first c.loop-k.k (omega arith) c.loop-k.invariant.linking
