use Rattle.std.proofs.Common.{◌<◌, length, refl, subst, sym}
use Rattle.gen_code.proofs.Degrees.{degrees_more, few_yet, no_edge, within_at}
use Rattle.gen_code.proofs.ends.raise_all.Goals as goal

pub raise-requires-clause-within : goal.raise-requires-clause-within
raise-requires-clause-within c =
    within_at c.args.graph.now c.args.end (length c.args.degrees.now) (length c.loop-edge.degrees) c.requires.within (sym c.loop-edge.auto.degrees) c.edges-edges.result.now c.edges-edges.ensures.value c.loop-edge.edge-index c.loop-edge-test.true c.block_at.result c.block_at.ensures

pub raise-requires-clause-few : goal.raise-requires-clause-few
raise-requires-clause-few c =
    few_yet c.args.graph.now c.args.end c.edges-edges.result.now c.loop-edge.degrees c.loop-edge.edge-index c.loop-edge-test.true c.loop-edge.invariant
    (subst (λ (es : _). length es < 4294967296) (sym c.edges-edges.ensures.value) c.edges-edges.ensures.whole.few)

pub loop-edge-preserved : goal.loop-edge-preserved
loop-edge-preserved c =
    degrees_more c.args.graph.now c.args.end c.edges-edges.result.now c.loop-edge.degrees c.loop-edge.edge-index c.loop-edge-test.true c.loop-edge.invariant c.raise.new.degrees _ no_edge c.block_at.result refl c.block_at.ensures c.raise.ensures.raised
