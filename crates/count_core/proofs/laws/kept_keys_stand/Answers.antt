use Rattle.count_core.proofs.Kept.{kept_stand}
use Rattle.count_core.proofs.laws.kept_keys_stand.Goals as goal

pub returns : goal.returns
returns c = kept_stand
