use Rattle.gen_asks.proofs.Rising.{rises}
use Rattle.gen_asks.proofs.laws.counters_rise.Goals as goal

pub returns : goal.returns
returns c entry_first m accepted plain f at defined =
    rises entry_first m accepted plain (c.plain_can_be_counted.ensures m accepted plain) c.graphs_stand.ensures.whole c.graphs_stand.ensures.edges c.graphs_stand.ensures.nodes c.trees_span.ensures f at defined
