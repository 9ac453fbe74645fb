use Rattle.std.proofs.Common.{◌≡◌, ◌<◌, length, subst, ◌∙◌, ap, arith}
use Rattle.ir_tree.specs.Reach.{is_marked}
use Rattle.cfg_tree.specs.Counted.{counted_of}
use Rattle.cfg_tree.proofs.Counting.{one_more_counted}
use Rattle.cfg_tree.proofs.counted.counted_edges.Goals as goal

pub loop-k-preserved : goal.loop-k-preserved
loop-k-preserved c = one_more_counted c.args.order.now c.args.entry_first c.loop-k.k c.in_ok-marks.marks.items c.loop-k.counted.items c.push_if.new.numbers.items (is_marked c.deref-in_order-items.result.now c.loop-k.k) c.is_counted.result
    (subst (λ marks. c.loop-k.k < length marks) c.deref-in_order-items.ensures.value c.loop-k-test.true) c.in_ok-marks.ensures.marks (ap (λ marks. is_marked marks c.loop-k.k) c.deref-in_order-items.ensures.value) c.is_counted.ensures c.loop-k.invariant c.in_ok-push_if.ensures

pub returns : goal.returns
returns c =
    let size : length c.deref-in_order-items.result.now ≡ c.args.edges = ap (λ marks. length marks) c.deref-in_order-items.ensures.value ∙ c.in_ok-marks.ensures.size in
    let all : c.loop-k.k ≡ c.args.edges = omega (arith, size, c.loop-k-test.false, c.loop-k.auto.k-end) in
    c.loop-k.invariant ∙ ap (λ n. counted_of n c.args.order.now c.args.entry_first) all
