use Rattle.flow_solve.proofs.Law.{has_one}
use Rattle.flow_solve.proofs.laws.counters_have_one_flow.Goals as goal

pub returns : goal.returns
returns c = has_one
