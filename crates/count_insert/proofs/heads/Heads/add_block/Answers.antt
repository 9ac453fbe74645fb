use Rattle.std.proofs.Common.{◌≡◌, ◌<◌, List, [], length, get_or, subst}
use Rattle.std.proofs.lemmas.Option.{slice_get-get_or}
use Rattle.count_insert.specs.Lists.{renamings_at}
use Rattle.count_insert.proofs.Turns.{put_behind}
use Rattle.count_plan.specs.Ways.{new_at, renaming}
use Rattle.ir_tree.specs.Names.{same}
use Rattle.ir_tree.specs.Successors.{successors}
use Rattle.count_insert.proofs.heads.Heads.add_block.Goals as goal

pub loop-position-preserved : goal.loop-position-preserved
loop-position-preserved c q =
    let ss = successors c.args.block.now.term in
    let p = c.loop-position.position in
    let h : p < length ss = subst (λ n. p < n) c.successor_count-position-end.ensures c.loop-position-test.true in
    put_behind (λ p to. renaming (same q to) c.args.block.now.label (new_at c.args.plan.now p)) ss p [] h (renamings_at c.loop-position.self q) (renamings_at c.add_way.new.self q) _ (c.in_ok-add_way.ensures (get_or ss p []) (slice_get-get_or ss p [] h) q) (c.loop-position.invariant q)
