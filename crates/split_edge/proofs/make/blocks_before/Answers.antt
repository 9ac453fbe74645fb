use Rattle.std.proofs.Common.{◌≡◌, [], ◌∷◌, ◌++◌, rules}
use Rattle.count_plan.specs.Ways.{no_block_plan}
use Rattle.split_edge.proofs.Places.{place_put}
use Rattle.split_edge.proofs.make.blocks_before.Goals as goal

pub loop-done-preserved : goal.loop-done-preserved
loop-done-preserved c =
    let put : c.push.new.self.items ≡ c.loop-done.plans.items ++ no_block_plan ∷ [] = search rules in
    place_put no_block_plan c.args.last c.args.count c.loop-done.done c.loop-done-test.true c.loop-done.plans.items c.push.new.self.items put _ c.loop-done.invariant
