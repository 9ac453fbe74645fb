use Rattle.counted_rules.proofs.Reordered.{reordered_as_large}
use Rattle.counted_rules.proofs.laws.reordered_are_as_large.Goals as goal

pub returns : goal.returns
returns c f blocks is = reordered_as_large f blocks is
