use Rattle.count_core.proofs.Reached.{reached}
use Rattle.count_core.proofs.laws.reached_states_are_cores.Goals as goal

pub returns : goal.returns
returns c = reached
