use Rattle.printed_spells.proofs.ReadNames.{lexes_read}
use Rattle.printed_spells.proofs.laws.names_are_read.Goals as goal

pub returns : goal.returns
returns c = lexes_read
