use Rattle.std.proofs.Common.{map, take, arith}
use Rattle.check_flow.proofs.PhiLists.{labels_count, labels_more}
use Rattle.check_flow.proofs.entries.labels_of.Goals as goal

pub loop-i-preserved : goal.loop-i-preserved
loop-i-preserved c =
    let es = c.args.entries.now in
    let i = c.loop-i.i in
    labels_more c.add.new.self es i c.index-entries-i.result c.bytes.result.now c.loop-i-test.true c.index-entries-i.is c.bytes.ensures (c.in_ok-add.ensures.added (map (λ e. e.1) (take i es)) c.loop-i.invariant (labels_count es i (omega arith)))
