use Rattle.ir_tree.specs.Edges.{rows}
use Rattle.cfg_edges.proofs.Targets.{are_rows}
use Rattle.cfg_edges.proofs.Whole.{relation_of, whole_of, edges_of, each_of, nodes_of, numbered_of, successors_reached}
use Rattle.cfg_edges.proofs.laws.graphs_stand.Goals as goal

pub returns-clause-relation : goal.returns-clause-relation
returns-clause-relation c f graph = relation_of f graph (c.reached_are_marks.ensures (rows f.blocks) (are_rows f graph))

pub returns-clause-whole : goal.returns-clause-whole
returns-clause-whole c f graph = whole_of f graph (c.reached_are_marks.ensures (rows f.blocks) (are_rows f graph))

pub returns-clause-edges : goal.returns-clause-edges
returns-clause-edges c f graph = edges_of f graph (c.reached_are_marks.ensures (rows f.blocks) (are_rows f graph))

pub returns-clause-each : goal.returns-clause-each
returns-clause-each c f graph = each_of f graph (c.reached_are_marks.ensures (rows f.blocks) (are_rows f graph))

pub returns-clause-numbered : goal.returns-clause-numbered
returns-clause-numbered c f graph = numbered_of f graph (c.reached_are_marks.ensures (rows f.blocks) (are_rows f graph))

pub returns-clause-successors : goal.returns-clause-successors
returns-clause-successors c f graph = successors_reached f graph

pub returns-clause-nodes : goal.returns-clause-nodes
returns-clause-nodes c f graph = nodes_of f graph (c.reached_are_marks.ensures (rows f.blocks) (are_rows f graph))
