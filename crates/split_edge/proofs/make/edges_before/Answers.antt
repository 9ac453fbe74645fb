use Rattle.std.proofs.Common.{◌≡◌, ◌++◌, [], ◌∷◌, None, Some, rules}
use Rattle.split_edge.proofs.Places.{place_put}
use Rattle.split_edge.proofs.make.edges_before.Goals as goal

pub loop-done-preserved : goal.loop-done-preserved
loop-done-preserved c =
    let put : c.push.new.self.items ≡ c.loop-done.edges.items ++ None ∷ [] = search rules in
    place_put None (Some c.args.new) c.args.count c.loop-done.done c.loop-done-test.true c.loop-done.edges.items c.push.new.self.items put _ c.loop-done.invariant
