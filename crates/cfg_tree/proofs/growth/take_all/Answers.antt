use Rattle.std.proofs.Common.{rules, ◌∙◌, true, length, set, List, ℕ, sym, subst, arith, length-set}
use Rattle.std.specs.BinaryHeap.{heap_items}
use Rattle.std.proofs.lemmas.List.{nil_from_length}
use Rattle.cfg_tree.specs.Growing.{Growing}
use Rattle.cfg_tree.proofs.Further.{all_reached, enters_below, growing_ends, in_marks, is_edge, leaves_below, one_reached, passed_over, taken, taken_less}
use Rattle.cfg_tree.proofs.growth.take_all.Goals as goal

pub bounds-edges-number : goal.bounds-edges-number
bounds-edges-number c = is_edge c.args.edges.now c.args.weights.now c.loop-number.marks (heap_items c.loop-number.heap) (heap_items c.pop.new.self) c.loop-number.order.items c.in-Some.field-0-0 c.in-Some.field-0-1.0 c.loop-number.invariant.0 c.in-Some.ensures.permutation c.in-Some.ensures.heap_order

pub new_end-requires-clause-from : goal.new_end-requires-clause-from
new_end-requires-clause-from c = leaves_below c.args.edges.now c.args.weights.now c.loop-number.marks (heap_items c.loop-number.heap) (heap_items c.pop.new.self) c.loop-number.order.items c.in-Some.field-0-0 c.in-Some.field-0-1.0 c.loop-number.invariant.0 c.in-Some.ensures.permutation c.in-Some.ensures.heap_order (length c.loop-number.marks) (length c.args.marks.now) c.loop-number.auto.marks c.requires.tails

pub new_end-requires-clause-to : goal.new_end-requires-clause-to
new_end-requires-clause-to c = enters_below c.args.edges.now c.args.weights.now c.loop-number.marks (heap_items c.loop-number.heap) (heap_items c.pop.new.self) c.loop-number.order.items c.in-Some.field-0-0 c.in-Some.field-0-1.0 c.loop-number.invariant.0 c.in-Some.ensures.permutation c.in-Some.ensures.heap_order (length c.loop-number.marks) (length c.args.marks.now) c.loop-number.auto.marks c.requires.heads

pub loop-number-preserved-in-None : goal.loop-number-preserved-in-None
loop-number-preserved-in-None c = (passed_over c.args.edges.now c.args.weights.now c.loop-number.marks (heap_items c.loop-number.heap) (heap_items c.pop.new.self) c.loop-number.order.items c.in-Some.field-0-0 c.in-Some.field-0-1.0 c.loop-number.invariant.0 c.in-Some.ensures.permutation c.in-Some.ensures.heap_order c.in-None.ensures, c.loop-number.invariant.1)

pub bounds-marks-node : goal.bounds-marks-node
bounds-marks-node c =
    let w = in_marks c.args.edges.now c.args.weights.now c.loop-number.marks (heap_items c.loop-number.heap) (heap_items c.pop.new.self) c.loop-number.order.items c.in-Some.field-0-0 c.in-Some.field-0-1.0 c.loop-number.invariant.0 c.in-Some.ensures.permutation c.in-Some.ensures.heap_order c.in-Some-new_end.node c.in-Some-new_end.ensures (length c.args.marks.now) c.requires.tails c.requires.heads in
    let e = c.loop-number.auto.marks in
    omega (arith, w, e)

pub offer_edges-requires-clause-node : goal.offer_edges-requires-clause-node
offer_edges-requires-clause-node c =
    let w = in_marks c.args.edges.now c.args.weights.now c.loop-number.marks (heap_items c.loop-number.heap) (heap_items c.pop.new.self) c.loop-number.order.items c.in-Some.field-0-0 c.in-Some.field-0-1.0 c.loop-number.invariant.0 c.in-Some.ensures.permutation c.in-Some.ensures.heap_order c.in-Some-new_end.node c.in-Some-new_end.ensures (length c.args.marks.now) c.requires.tails c.requires.heads in
    let e = c.loop-number.auto.marks in
    let s = length-set c.loop-number.marks c.in-Some-new_end.node true in
    omega (arith, w, e, s)

pub loop-number-smaller : goal.loop-number-smaller
loop-number-smaller c =
    let w = in_marks c.args.edges.now c.args.weights.now c.loop-number.marks (heap_items c.loop-number.heap) (heap_items c.pop.new.self) c.loop-number.order.items c.in-Some.field-0-0 c.in-Some.field-0-1.0 c.loop-number.invariant.0 c.in-Some.ensures.permutation c.in-Some.ensures.heap_order c.in-Some-new_end.node c.in-Some-new_end.ensures (length c.args.marks.now) c.requires.tails c.requires.heads in
    let e = c.loop-number.auto.marks in
    taken_less c.args.edges.now c.args.weights.now c.loop-number.marks (heap_items c.loop-number.heap) (heap_items c.pop.new.self) c.loop-number.order.items c.in-Some.field-0-0 c.in-Some.field-0-1.0 c.loop-number.invariant.0 c.in-Some.ensures.permutation c.in-Some.ensures.heap_order c.in-Some-new_end.node c.in-Some-new_end.ensures (omega (arith, w, e)) (heap_items c.offer_edges.new.heap) c.in_ok-offer_edges-in-Some-new_end.ensures

pub loop-number-preserved : goal.loop-number-preserved
loop-number-preserved c =
    let w = in_marks c.args.edges.now c.args.weights.now c.loop-number.marks (heap_items c.loop-number.heap) (heap_items c.pop.new.self) c.loop-number.order.items c.in-Some.field-0-0 c.in-Some.field-0-1.0 c.loop-number.invariant.0 c.in-Some.ensures.permutation c.in-Some.ensures.heap_order c.in-Some-new_end.node c.in-Some-new_end.ensures (length c.args.marks.now) c.requires.tails c.requires.heads in
    let e = c.loop-number.auto.marks in (
      subst (λ (order : List ℕ). Growing c.args.edges.now c.args.weights.now (set c.loop-number.marks c.in-Some-new_end.node true) (heap_items c.offer_edges.new.heap) order) (sym c.in_ok-push-in-Some-new_end.ensures.items)
          (taken c.args.edges.now c.args.weights.now c.loop-number.marks (heap_items c.loop-number.heap) (heap_items c.pop.new.self) c.loop-number.order.items c.in-Some.field-0-0 c.in-Some.field-0-1.0 c.loop-number.invariant.0 c.in-Some.ensures.permutation c.in-Some.ensures.heap_order c.in-Some-new_end.node c.in-Some-new_end.ensures (omega (arith, w, e)) (heap_items c.offer_edges.new.heap) c.in_ok-offer_edges-in-Some-new_end.ensures),
      one_reached c.loop-number.marks c.in-Some-new_end.node c.loop-number.order.items c.push.new.self.items c.in-Some.field-0-1.0 (omega (arith, w, e)) c.in-Some-new_end.ensures.0 c.in_ok-push-in-Some-new_end.ensures.items c.loop-number.invariant.1,
    )

pub returns-then-len-marks : goal.returns-then-len-marks
returns-then-len-marks c =
    let w = in_marks c.args.edges.now c.args.weights.now c.loop-number.marks (heap_items c.loop-number.heap) (heap_items c.pop.new.self) c.loop-number.order.items c.in-Some.field-0-0 c.in-Some.field-0-1.0 c.loop-number.invariant.0 c.in-Some.ensures.permutation c.in-Some.ensures.heap_order c.in-Some-new_end.node c.in-Some-new_end.ensures (length c.args.marks.now) c.requires.tails c.requires.heads in
    let e = c.loop-number.auto.marks in
    let grown = subst (λ (order : List ℕ). Growing c.args.edges.now c.args.weights.now (set c.loop-number.marks c.in-Some-new_end.node true) (heap_items c.offer_edges.new.heap) order) (sym c.in_ok-push-in-Some-new_end.ensures.items)
    (taken c.args.edges.now c.args.weights.now c.loop-number.marks (heap_items c.loop-number.heap) (heap_items c.pop.new.self) c.loop-number.order.items c.in-Some.field-0-0 c.in-Some.field-0-1.0 c.loop-number.invariant.0 c.in-Some.ensures.permutation c.in-Some.ensures.heap_order c.in-Some-new_end.node c.in-Some-new_end.ensures (omega (arith, w, e)) (heap_items c.offer_edges.new.heap) c.in_ok-offer_edges-in-Some-new_end.ensures) in
    let count = one_reached c.loop-number.marks c.in-Some-new_end.node c.loop-number.order.items c.push.new.self.items c.in-Some.field-0-1.0 (omega (arith, w, e)) c.in-Some-new_end.ensures.0 c.in_ok-push-in-Some-new_end.ensures.items c.loop-number.invariant.1 in
    let size = length-set c.loop-number.marks c.in-Some-new_end.node true in
    all_reached c.args.edges.now c.args.weights.now (length c.args.marks.now) (set c.loop-number.marks c.in-Some-new_end.node true) (heap_items c.offer_edges.new.heap) c.push.new.self.items c.requires.tails c.requires.heads (size ∙ e) grown count (search rules)

pub returns : goal.returns
returns c = growing_ends c.args.edges.now c.args.weights.now c.loop-number.marks (heap_items c.loop-number.heap) c.loop-number.order.items c.loop-number.invariant.0 (nil_from_length (heap_items c.loop-number.heap) (omega (arith, c.loop-number.heap.data.ok.0, c.in_default.ensures.none)))
