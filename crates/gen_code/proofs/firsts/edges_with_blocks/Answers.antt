use Rattle.std.proofs.Common.{List, length, refl, ap, arith}
use Rattle.gen_code.proofs.Degrees.{no_edge}
use Rattle.gen_code.proofs.Further.{edge_more}
use Rattle.gen_code.specs.Numbered.{number_at}
use Rattle.ir_tree.specs.declared.edge.Edge.{Edge}
use Rattle.gen_code.proofs.firsts.edges_with_blocks.Goals as goal

pub add_edge-requires : goal.add_edge-requires
add_edge-requires c =
    let few = c.edges-edges.ensures.whole.few in
    let same = ap (λ (es : List Edge). length es) c.edges-edges.ensures.value in
    omega (arith, c.loop-number-test.true, few, same)

pub loop-number-preserved : goal.loop-number-preserved
loop-number-preserved c b p =
    let q = c.args.placing.now in
    edge_more q.graph.now q.counted.now c.edges-edges.result.now c.loop-number.number b p _ no_edge (number_at c.loop-number.made b p) (number_at c.add_edge.new.made b p) c.loop-number-test.true refl (c.loop-number.invariant b p) (c.in_ok-add_edge.ensures b p)
