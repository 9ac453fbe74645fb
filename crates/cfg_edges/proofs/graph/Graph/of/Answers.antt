use Rattle.std.proofs.Common.{sym, subst}
use Rattle.ir_tree.specs.Graphs.{FlowGraph}
use Rattle.cfg_edges.specs.Graph.{AreNumbered, EachHasEdge, EdgesStand, IsFlowGraph}
use Rattle.cfg_edges.proofs.Built.{few_of_blocks, rows_of_graph, few_marks, size_then, blocks_then, places_then, targets_then, few_then, graph_then}
use Rattle.cfg_edges.proofs.graph.Graph.of.Goals as goal

pub rows_of-requires : goal.rows_of-requires
rows_of-requires c = few_of_blocks c.args.function.now c.requires c.as_slice-blocks.result.now c.as_slice-blocks.ensures

pub reachable-requires : goal.reachable-requires
reachable-requires c = rows_of_graph c.args.function.now c.requires c.as_slice-blocks.result.now c.as_slice-blocks.ensures c.in_ok-rows.rows c.in_ok-rows.ensures

pub numbers_of-requires : goal.numbers_of-requires
numbers_of-requires c = few_marks c.args.function.now c.requires c.as_slice-blocks.result.now c.as_slice-blocks.ensures c.in_ok-rows.rows c.in_ok-rows.ensures c.in_ok-marks.marks.items c.in_ok-marks.ensures.value c.in_ok-marks.ensures.marks c.as_slice.result.now c.as_slice.ensures.value

pub marked_blocks-requires : goal.marked_blocks-requires
marked_blocks-requires c = few_marks c.args.function.now c.requires c.as_slice-blocks.result.now c.as_slice-blocks.ensures c.in_ok-rows.rows c.in_ok-rows.ensures c.in_ok-marks.marks.items c.in_ok-marks.ensures.value c.in_ok-marks.ensures.marks c.as_slice-2.result.now c.as_slice-2.ensures.value

pub edges_of-requires-clause-size : goal.edges_of-requires-clause-size
edges_of-requires-clause-size c =
    size_then c.args.function.now c.requires c.as_slice-blocks.result.now c.as_slice-blocks.ensures c.in_ok-rows.rows c.in_ok-rows.ensures c.in_ok-marks.marks.items c.in_ok-marks.ensures.value c.in_ok-marks.ensures.marks
    c.as_slice.result.now c.in_ok-nodes.nodes.items c.as_slice-3.result.now c.as_slice.ensures.value c.in_ok-nodes.ensures c.as_slice-3.ensures.value

pub edges_of-requires-clause-blocks : goal.edges_of-requires-clause-blocks
edges_of-requires-clause-blocks c =
    blocks_then c.args.function.now c.requires c.as_slice-blocks.result.now c.as_slice-blocks.ensures c.in_ok-rows.rows c.in_ok-rows.ensures c.in_ok-marks.marks.items c.in_ok-marks.ensures.value c.in_ok-marks.ensures.marks
    c.as_slice-2.result.now c.in_ok-reached.reached.items c.as_slice-4.result.now c.as_slice-2.ensures.value c.in_ok-reached.ensures c.as_slice-4.ensures.value

pub edges_of-requires-clause-targets : goal.edges_of-requires-clause-targets
edges_of-requires-clause-targets c = targets_then c.args.function.now c.requires c.as_slice-blocks.result.now c.as_slice-blocks.ensures c.in_ok-rows.rows c.in_ok-rows.ensures

pub edges_of-requires-clause-few : goal.edges_of-requires-clause-few
edges_of-requires-clause-few c = few_then c.args.function.now c.requires c.as_slice-blocks.result.now c.as_slice-blocks.ensures c.in_ok-rows.rows c.in_ok-rows.ensures c.in_ok-marks.marks.items c.in_ok-marks.ensures.value c.in_ok-marks.ensures.marks

pub places-requires : goal.places-requires
places-requires c =
    places_then c.args.function.now c.requires c.as_slice-blocks.result.now c.as_slice-blocks.ensures c.in_ok-rows.rows c.in_ok-rows.ensures c.in_ok-marks.marks.items c.in_ok-marks.ensures.value c.in_ok-marks.ensures.marks
    c.as_slice-2.result.now c.in_ok-reached.reached.items c.as_slice-5.result.now c.as_slice-2.ensures.value c.in_ok-reached.ensures c.as_slice-5.ensures.value

pub places-requires-2 : goal.places-requires-2
places-requires-2 c =
    places_then c.args.function.now c.requires c.as_slice-blocks.result.now c.as_slice-blocks.ensures c.in_ok-rows.rows c.in_ok-rows.ensures c.in_ok-marks.marks.items c.in_ok-marks.ensures.value c.in_ok-marks.ensures.marks
    c.as_slice-2.result.now c.in_ok-reached.reached.items c.as_slice-6.result.now c.as_slice-2.ensures.value c.in_ok-reached.ensures c.as_slice-6.ensures.value

pub invariant_of-result : goal.invariant_of-result
invariant_of-result c =
    subst (λ (g : FlowGraph). IsFlowGraph g)
    (sym (graph_then c.args.function.now c.requires c.as_slice-blocks.result.now c.as_slice-blocks.ensures c.in_ok-rows.rows c.in_ok-rows.ensures c.in_ok-marks.marks.items c.in_ok-marks.ensures.value c.in_ok-marks.ensures.marks
    c.as_slice.result.now c.in_ok-nodes.nodes.items c.as_slice-3.result.now c.as_slice-2.result.now c.in_ok-reached.reached.items c.as_slice-4.result.now c.as_slice-5.result.now c.as_slice-6.result.now c.in_ok-edges.edges.items c.in_ok-sites.sites.items c.in_ok-selects.selects.items
    c.as_slice.ensures.value c.in_ok-nodes.ensures c.as_slice-3.ensures.value c.as_slice-2.ensures.value c.in_ok-reached.ensures c.as_slice-4.ensures.value c.in_ok-edges.ensures c.as_slice-5.ensures.value c.in_ok-sites.ensures c.as_slice-6.ensures.value c.in_ok-selects.ensures))
    (c.graphs_stand.ensures.whole c.args.function.now c.requires)

pub returns-clause-graph : goal.returns-clause-graph
returns-clause-graph c =
    graph_then c.args.function.now c.requires c.as_slice-blocks.result.now c.as_slice-blocks.ensures c.in_ok-rows.rows c.in_ok-rows.ensures c.in_ok-marks.marks.items c.in_ok-marks.ensures.value c.in_ok-marks.ensures.marks
    c.as_slice.result.now c.in_ok-nodes.nodes.items c.as_slice-3.result.now c.as_slice-2.result.now c.in_ok-reached.reached.items c.as_slice-4.result.now c.as_slice-5.result.now c.as_slice-6.result.now c.in_ok-edges.edges.items c.in_ok-sites.sites.items c.in_ok-selects.selects.items
    c.as_slice.ensures.value c.in_ok-nodes.ensures c.as_slice-3.ensures.value c.as_slice-2.ensures.value c.in_ok-reached.ensures c.as_slice-4.ensures.value c.in_ok-edges.ensures c.as_slice-5.ensures.value c.in_ok-sites.ensures c.as_slice-6.ensures.value c.in_ok-selects.ensures

pub returns-clause-edges : goal.returns-clause-edges
returns-clause-edges c = subst (λ (g : FlowGraph). EdgesStand c.args.function.now g) (sym (returns-clause-graph c)) (c.graphs_stand.ensures.edges c.args.function.now c.requires)

pub returns-clause-each : goal.returns-clause-each
returns-clause-each c = subst (λ (g : FlowGraph). EachHasEdge c.args.function.now g) (sym (returns-clause-graph c)) (c.graphs_stand.ensures.each c.args.function.now c.requires)

pub returns-clause-numbered : goal.returns-clause-numbered
returns-clause-numbered c = subst (λ (g : FlowGraph). AreNumbered c.args.function.now g) (sym (returns-clause-graph c)) (c.graphs_stand.ensures.numbered c.args.function.now c.requires)
