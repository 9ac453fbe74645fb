use Rattle.std.proofs.Common.{◌≡◌, ◌<◌, List, [], length, get_or, subst}
use Rattle.std.proofs.lemmas.Option.{slice_get-get_or}
use Rattle.count_insert.proofs.Turns.{put_behind}
use Rattle.count_plan.specs.Counted.{put_on}
use Rattle.count_plan.specs.Ways.{new_at}
use Rattle.ir_tree.specs.Successors.{successors}
use Rattle.count_insert.proofs.ways.new_blocks.Goals as goal

pub loop-position-preserved : goal.loop-position-preserved
loop-position-preserved c =
    let ss = successors c.args.block.now.term in
    let p = c.loop-position.position in
    let h : p < length ss = subst (λ n. p < n) c.successor_count-position-end.ensures c.loop-position-test.true in
    put_behind (λ p to. put_on c.args.unit.now to (new_at c.args.plan.now p)) ss p [] h c.loop-position.made.items c.push_way.new.made.items _ (c.in_ok-push_way.ensures (get_or ss p []) (slice_get-get_or ss p [] h)) c.loop-position.invariant
