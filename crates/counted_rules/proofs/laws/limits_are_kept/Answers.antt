use Rattle.counted_rules.proofs.Within.{passed_none, within_passes}
use Rattle.counted_rules.proofs.laws.limits_are_kept.Goals as goal

pub returns : goal.returns
returns c m = (passed_none m, within_passes m)
