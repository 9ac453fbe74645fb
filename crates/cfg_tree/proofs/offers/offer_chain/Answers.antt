use Rattle.std.proofs.Common.{◌-◌, length, arith}
use Rattle.std.specs.BinaryHeap.{heap_items}
use Rattle.cfg_tree.proofs.Offered.{offers_after, offers_start, place_after, shorter_after}
use Rattle.cfg_tree.proofs.offers.offer_chain.Goals as goal

pub loop-place-init : goal.loop-place-init
loop-place-init g c =
    let s = offers_start g.end c.args.edges.now (length c.args.marks.now) c.args.chains.now.first.items c.args.chains.now.next.items c.requires.0 c.args.node c.first-place.result c.requires.1.1.1.0 c.first-place.ensures c.args.weights.now c.args.marks.now (heap_items c.args.heap.now) in
    record { is_place = s.0; offers = s.1 }

pub loop-place-smaller : goal.loop-place-smaller
loop-place-smaller g c =
    shorter_after g.end c.args.edges.now (length c.args.marks.now) c.args.chains.now.first.items c.args.chains.now.next.items c.requires.0 c.args.node (c.loop-place.place - 1) c.loop-place.place (omega arith) c.loop-place.invariant.is_place c.next-place.result c.next-place.ensures

pub loop-place-preserved : goal.loop-place-preserved
loop-place-preserved g c = record {
  is_place = place_after g.end c.args.edges.now (length c.args.marks.now) c.args.chains.now.first.items c.args.chains.now.next.items c.requires.0 c.args.node (c.loop-place.place - 1) c.loop-place.place (omega arith) c.loop-place.invariant.is_place c.next-place.result c.next-place.ensures;
  offers = offers_after g.end c.args.edges.now (length c.args.marks.now) c.args.chains.now.first.items c.args.chains.now.next.items c.requires.0 c.args.node (c.loop-place.place - 1) c.loop-place.place (omega arith) c.loop-place.invariant.is_place c.next-place.result c.next-place.ensures
      c.args.weights.now c.args.marks.now (heap_items c.args.heap.now) (heap_items c.loop-place.heap) (heap_items c.offer.new.heap) c.loop-place.invariant.offers c.in_ok-offer.ensures;
}
