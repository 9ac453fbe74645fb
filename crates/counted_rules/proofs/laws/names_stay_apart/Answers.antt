use Rattle.counted_rules.proofs.NamesKept.{names_once}
use Rattle.counted_rules.proofs.laws.names_stay_apart.Goals as goal

pub returns : goal.returns
returns c m unit f fits n = names_once unit f n (fits.apart n)
