use Rattle.count_core.proofs.Alone.{one_did_all, sites_of_one}
use Rattle.count_core.proofs.laws.one_did_all.Goals as goal

pub returns : goal.returns
returns c = record { sums = one_did_all; sites = sites_of_one }
