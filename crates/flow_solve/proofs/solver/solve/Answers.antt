use Rattle.flow_solve.proofs.Graphs.{ends_of_graph}
use Rattle.flow_solve.proofs.solver.solve.Goals as goal

pub solve_edges-requires-clause-nodes : goal.solve_edges-requires-clause-nodes
solve_edges-requires-clause-nodes c = ends_of_graph c.args.graph.now c.edges-edges.result.now c.nodes.result c.edges-edges.ensures.value c.nodes.ensures.count c.nodes.ensures.whole
