use Rattle.std.proofs.Common.{◌+◌}
use Rattle.gen_code.proofs.Made.{item_put}
use Rattle.gen_plan.specs.Gen.{watch_of}
use Rattle.gen_code.proofs.blocks.Parts.watches_from.Goals as goal

pub loop-i-preserved : goal.loop-i-preserved
loop-i-preserved c =
    let p = c.args.self.now in
    item_put (λ i x. watch_of p.function.now p.placing.graph.now p.placing.counted.now c.args.block (c.args.item + i) x) c.args.instrs.now c.loop-i.i c.index-instrs-i.result c.index-instrs-i.result c.loop-i.watches.items c.push.new.self.items c.in_ok-watch_of.field-0
    c.loop-i-test.true c.index-instrs-i.is c.in_ok-watch_of.ensures c.loop-i.invariant c.in_ok-push.ensures.items
