use Rattle.printed_spells.proofs.Whole.{spelled_is_spellable}
use Rattle.printed_spells.proofs.laws.spelled_is_spellable.Goals as goal

pub returns : goal.returns
returns c = spelled_is_spellable c.spelled_parts.ensures
