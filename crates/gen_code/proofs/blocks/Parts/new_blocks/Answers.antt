use Rattle.std.proofs.Common.{◌<◌, [], length, get_or, refl, subst}
use Rattle.gen_code.proofs.Made.{item_put}
use Rattle.gen_plan.specs.Placing.{new_on}
use Rattle.ir_tree.specs.Successors.{successors}
use Rattle.gen_code.proofs.blocks.Parts.new_blocks.Goals as goal

pub loop-position-preserved : goal.loop-position-preserved
loop-position-preserved c =
    let p = c.args.self.now in
    let labels = successors c.args.term.now in
    let h : c.loop-position.position < length labels = subst (λ n. c.loop-position.position < n) c.successor_count-ways.ensures c.loop-position-test.true in
    item_put (λ i to. new_on p.function.now p.placing.graph.now p.placing.counted.now c.args.block i) labels c.loop-position.position [] (get_or labels c.loop-position.position []) c.loop-position.news.items c.push.new.self.items c.in_ok-new_on.field-0
    h refl c.in_ok-new_on.ensures c.loop-position.invariant c.in_ok-push.ensures.items
