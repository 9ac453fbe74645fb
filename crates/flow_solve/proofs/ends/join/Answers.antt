use Rattle.flow_solve.proofs.Marks.{marking_starts, is_edge, enters_node, has_place, is_node, marked_further}
use Rattle.flow_solve.proofs.ends.join.Goals as goal

pub loop-number-init : goal.loop-number-init
loop-number-init c = marking_starts c.args.edges.now c.args.order.now c.args.marks.now c.args.ends.now c.requires.order c.requires.places c.requires.none c.requires.marks c.requires.some c.requires.nodes

pub bounds-edges-k : goal.bounds-edges-k
bounds-edges-k c = is_edge c.args.edges.now c.args.order.now c.loop-number.number-index c.loop-number.marks c.loop-number.ends c.loop-number-test.true c.loop-number.invariant

pub new_end-new-requires : goal.new_end-new-requires
new_end-new-requires c = enters_node c.args.edges.now c.args.order.now c.loop-number.number-index c.loop-number.marks c.loop-number.ends c.loop-number-test.true c.loop-number.invariant

pub slice_set_of-marks : goal.slice_set_of-marks
slice_set_of-marks c = is_node c.args.edges.now c.args.order.now c.loop-number.number-index c.loop-number.marks c.loop-number.ends c.loop-number-test.true c.loop-number.invariant c.new_end-new.result c.new_end-new.ensures

pub bounds-ends-k : goal.bounds-ends-k
bounds-ends-k c = has_place c.args.edges.now c.args.order.now c.loop-number.number-index c.loop-number.marks c.loop-number.ends c.loop-number-test.true c.loop-number.invariant

pub loop-number-preserved : goal.loop-number-preserved
loop-number-preserved c = marked_further c.args.edges.now c.args.order.now c.loop-number.number-index c.loop-number.marks c.loop-number.ends c.loop-number-test.true c.loop-number.invariant c.new_end-new.result c.from.result c.from.ensures c.new_end-new.ensures
