use Rattle.lowered_rules.proofs.Told.{told}
use Rattle.lowered_rules.proofs.laws.units_are_told.Goals as goal

pub returns : goal.returns
returns c m low g at used = told m low g at used
