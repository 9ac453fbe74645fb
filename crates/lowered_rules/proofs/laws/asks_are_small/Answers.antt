use Rattle.lowered_rules.proofs.Told.{asks_fit, small}
use Rattle.lowered_rules.proofs.laws.asks_are_small.Goals as goal

pub returns : goal.returns
returns c m formed counted a at = small m a (asks_fit m formed counted a at)
