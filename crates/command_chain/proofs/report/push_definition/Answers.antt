use Rattle.std.proofs.Common.{◌≡◌, Some, ap, sym, ◌∙◌}
use Rattle.std.specs.Prelude.{slice_get}
use Rattle.ir_tree.specs.Graphs.{FlowGraph}
use Rattle.command_chain.proofs.report.push_definition.Goals as goal

pub push_edges-requires-clause-edges : goal.push_edges-requires-clause-edges
push_edges-requires-clause-edges c n e at =
    c.edges_are_counted.ensures.graph c.args.code.now c.args.number c.args.function.now c.requires.at c.requires.graph n e (ap (λ (g : FlowGraph). slice_get g.edges n) (sym c.in_ok-graph.ensures.graph) ∙ at)
