use Rattle.lowered_rules.proofs.Globals.{global_formed}
use Rattle.lowered_rules.proofs.laws.globals_stay_formed.Goals as goal

pub returns : goal.returns
returns c m low g at = global_formed m low g at
