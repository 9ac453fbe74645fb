use Rattle.walk_flow.proofs.Flow.{calls_flow}
use Rattle.walk_flow.proofs.laws.traversals_are_a_flow.Goals as goal

pub returns : goal.returns
returns c m k f calls n at graph all =
    calls_flow m k f at (c.graphs_stand.ensures.whole f graph) (c.graphs_stand.ensures.edges f graph) (c.graphs_stand.ensures.each f graph) (c.graphs_stand.ensures.nodes f graph) (c.graphs_stand.ensures.successors f graph)
    n (λ call h. c.walks_are_a_flow.ensures m call n h) calls all
