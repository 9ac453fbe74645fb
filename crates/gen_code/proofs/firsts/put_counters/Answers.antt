use Rattle.std.proofs.Common.{length, refl, sym, ◌∙◌}
use Rattle.gen_code.proofs.Degrees.{at_either, counting_within, no_edge}
use Rattle.gen_code.proofs.Further.{block_more}
use Rattle.gen_code.specs.Tables.{at}
use Rattle.gen_code.proofs.firsts.put_counters.Goals as goal

pub put_first-requires : goal.put_first-requires
put_first-requires c =
    let p = c.args.placing.now in
    counting_within p.graph.now c.args.end p.blocks (length c.loop-number.counters) (at_either p.graph.now p.blocks p.tails_within p.heads_within c.args.end) (sym (c.loop-number.auto.counters ∙ c.requires.size))
    c.edges-edges.result.now c.edges-edges.ensures.value c.loop-number.number c.loop-number-test.true c.counting_block-block.result c.counting_block-block.ensures

pub loop-number-preserved : goal.loop-number-preserved
loop-number-preserved c b =
    let p = c.args.placing.now in
    block_more p.graph.now c.args.end p.counted.now c.edges-edges.result.now c.loop-number.number b _ no_edge c.counting_block-block.result c.counter.result (at c.loop-number.counters b) (at c.put_first.new.table b) c.loop-number-test.true refl
    c.counting_block-block.ensures c.counter.ensures (c.loop-number.invariant b) (c.put_first.ensures.put b)
