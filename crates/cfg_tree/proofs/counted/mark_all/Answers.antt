use Rattle.std.proofs.Common.{arith}
use Rattle.cfg_tree.proofs.Counting.{one_more_mark, order_within}
use Rattle.cfg_tree.proofs.counted.mark_all.Goals as goal

pub bounds-marks-number : goal.bounds-marks-number
bounds-marks-number c = let w = order_within c.args.order.now c.loop-number.number-index c.loop-number-test.true in let h = c.requires.order _ w in let e = c.loop-number.auto.marks in omega (arith, h, e)

pub loop-number-preserved : goal.loop-number-preserved
loop-number-preserved c = one_more_mark c.args.order.now c.loop-number.marks c.loop-number.number-index c.loop-number-test.true (let w = order_within c.args.order.now c.loop-number.number-index c.loop-number-test.true in let h = c.requires.order _ w in let e = c.loop-number.auto.marks in omega (arith, h, e)) c.loop-number.invariant
