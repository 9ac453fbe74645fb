use Rattle.lowered_rules.proofs.Sizes.{stays_small}
use Rattle.lowered_rules.proofs.laws.functions_stay_small.Goals as goal

pub returns : goal.returns
returns c f = stays_small f
