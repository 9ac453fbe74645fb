use Rattle.std.proofs.Common.{◌≡◌, ◌+◌, ◌∷◌, ◌++◌, None, drop, get_or, refl, ap, ◌∙◌}
use Rattle.std.proofs.Math.ListN.{drop_of_length-le}
use Rattle.command_chain.specs.Counted.{counted_at}
use Rattle.command_chain.specs.Report.{edge_line, edge_lines}
use Rattle.ir_tree.specs.declared.edge.Edge.{Edge}
use Rattle.command_chain.proofs.ReportLemmas.{edges_end, edges_turn, next_item}
use Rattle.command_chain.proofs.report.push_edges.Goals as goal

pub loop-index-init : goal.loop-index-init
loop-index-init c = refl

pub loop-index-preserved : goal.loop-index-preserved
loop-index-preserved c =
    let count = counted_at c.args.code.now c.args.counts.now c.args.number in
    let blocks = c.args.blocks.now in
    let g = c.args.graph.now in
    let edges = c.edges-edge-items.result.now in
    let i = c.loop-index.index in
    let none : Edge = record { from = 0; to = 0; block = None; position = 0 } in
    let e = get_or edges i none in
    let rest = drop (i + 1) edges in
    let first : drop i edges ≡ e ∷ rest = next_item edges i e none c.loop-index-test.true refl in
    let line = edge_line blocks g i e (get_or c.args.counts.now c.slot.result 0) in
    let is : line ≡ edge_line blocks g i e (count e) = ap (λ s. edge_line blocks g i e (get_or c.args.counts.now s 0)) c.slot.ensures.place in
    ap (λ t. t ++ edge_lines count blocks g (i + 1) rest) c.in_ok-push_edge.ensures
    ∙ edges_turn count blocks g i (drop i edges) e rest c.loop-index.out.items line (c.args.out.now.items ++ edge_lines count blocks g 0 edges) first is c.loop-index.invariant

pub returns : goal.returns
returns c =
    let count = counted_at c.args.code.now c.args.counts.now c.args.number in
    let edges = c.edges-edge-items.result.now in
    edges_end count c.args.blocks.now c.args.graph.now c.loop-index.index (drop c.loop-index.index edges) c.loop-index.out.items (c.args.out.now.items ++ edge_lines count c.args.blocks.now c.args.graph.now 0 edges)
    (drop_of_length-le edges c.loop-index-test.false) c.loop-index.invariant
    ∙ ap (λ es. c.args.out.now.items ++ edge_lines count c.args.blocks.now c.args.graph.now 0 es) c.edges-edge-items.ensures.value
