use Rattle.ir_tree.specs.Graphs.{graph_of}
use Rattle.ir_machine.proofs.Counted.{has_edge}
use Rattle.ir_machine.proofs.laws.edges_are_counted.Goals as goal

pub returns-clause-stand : goal.returns-clause-stand
returns-clause-stand c m k f g at some stand n e here = has_edge m k f g at some stand n e here

pub returns-clause-graph : goal.returns-clause-graph
returns-clause-graph c m k f at graph n e here =
    has_edge m k f (graph_of f) at graph.entry (c.graphs_stand.ensures.edges f graph) n e here
