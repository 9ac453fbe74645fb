use Rattle.flow_solve.proofs.Writing.{place_in, writes_further}
use Rattle.flow_solve.proofs.counters.write_counters.Goals as goal

pub bounds-counts-number : goal.bounds-counts-number
bounds-counts-number c = place_in c.args.counted.now c.args.counts.now c.loop-c.counts c.loop-c.c c.requires.edges c.loop-c.auto.counts c.loop-c-test.true

pub loop-c-preserved : goal.loop-c-preserved
loop-c-preserved c =
    let more = writes_further c.args.counted.now c.args.counters.now c.args.counts.now c.loop-c.counts c.loop-c.c c.requires.edges c.requires.rising c.loop-c.auto.counts c.loop-c-test.true c.loop-c.invariant.done c.loop-c.invariant.others in
    record { done = more.0; others = more.1 }
