use Rattle.canonical_text.specs.Canonical.{canonical}
use Rattle.lower_spelled.proofs.Modules.{lowered_spellable}
use Rattle.lower_spelled.proofs.laws.lower_is_spelled.Goals as goal
use Rattle.lowering.specs.Lowered.{lowered}

pub returns-clause-spellable : goal.returns-clause-spellable
returns-clause-spellable c m ok parts =
    lowered_spellable m (c.asks_are_small.ensures m ok.formed ok.counted) (c.units_are_told.ensures m ok) parts

pub returns-clause-spelled : goal.returns-clause-spelled
returns-clause-spelled c text m spelled ok =
    c.canonical_spells.ensures (lowered m) (returns-clause-spellable c m ok (c.spelled_is_spellable.ensures text m spelled))

pub returns-clause-alone : goal.returns-clause-alone
returns-clause-alone c text m n spelled ok read =
    c.printed_once.ensures (canonical (lowered m)) (lowered m) n (returns-clause-spelled c text m spelled ok) read
