use Rattle.printed_spells.proofs.Assembly.{module_spelled}
use Rattle.printed_spells.proofs.laws.canonical_spells.Goals as goal

pub returns : goal.returns
returns c = module_spelled c.parts_are_spelled.ensures c.pieces_are_cut.ensures c.tokens_are_unique.ensures
