use Rattle.gen_plan.specs.Gen.{counted_edges, gen_hash}
use Rattle.gen_plan.proofs.Unreached.{stays_alone}
use Rattle.ir_tree.specs.Graphs.{graph_of}
use Rattle.gen_plan.proofs.laws.unreachable_blocks_stay.Goals as goal

pub returns : goal.returns
returns c entry_first f graph distinct j b at unreached =
    stays_alone f (graph_of f)
    (record {
      relation = c.graphs_stand.ensures.relation f graph;
      whole = c.graphs_stand.ensures.whole f graph;
      edges = c.graphs_stand.ensures.edges f graph;
      each_way = c.graphs_stand.ensures.each f graph;
      nodes = c.graphs_stand.ensures.nodes f graph;
      onward = c.graphs_stand.ensures.successors f graph;
    })
    (counted_edges entry_first f) (gen_hash entry_first f) distinct j b at unreached c.blocks_stay.ensures
