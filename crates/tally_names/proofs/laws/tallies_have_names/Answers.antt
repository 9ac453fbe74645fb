use Rattle.tally_names.proofs.Tallies.{tallies_apart}
use Rattle.tally_names.proofs.laws.tallies_have_names.Goals as goal

pub returns : goal.returns
returns c m accepted = tallies_apart m accepted
