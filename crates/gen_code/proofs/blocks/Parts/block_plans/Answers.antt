use Rattle.gen_code.proofs.Made.{item_put}
use Rattle.gen_plan.specs.Gen.{gen_block}
use Rattle.gen_code.proofs.blocks.Parts.block_plans.Goals as goal

pub loop-number-preserved : goal.loop-number-preserved
loop-number-preserved c =
    let p = c.args.self.now in
    item_put (gen_block p.function.now p.placing.graph.now p.placing.counted.now) c.as_slice-blocks.result.now c.loop-number.number c.index-blocks-number.result c.index-blocks-number.result c.loop-number.plans.items c.push.new.self.items c.in_ok-block_plan.field-0
    c.loop-number-test.true c.index-blocks-number.is c.in_ok-block_plan.ensures c.loop-number.invariant c.in_ok-push.ensures.items
