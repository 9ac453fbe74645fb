use Rattle.counted_accepted.proofs.Sizes.{few}
use Rattle.counted_accepted.proofs.few.counters_fit.Goals as goal

pub returns : goal.returns
returns c entry_first f graph = few entry_first f graph (c.graphs_stand.ensures.relation f graph)
