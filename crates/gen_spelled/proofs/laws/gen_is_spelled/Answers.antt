use Rattle.canonical_text.specs.Canonical.{canonical}
use Rattle.gen_plan.specs.Gen.{counted}
use Rattle.gen_spelled.proofs.Modules.{counted_spellable}
use Rattle.gen_spelled.proofs.laws.gen_is_spelled.Goals as goal

pub returns-clause-spellable : goal.returns-clause-spellable
returns-clause-spellable c entry_first m accepted plain short parts =
    counted_spellable entry_first m (c.gen_plans_fit.ensures entry_first m accepted plain) short parts

pub returns-clause-spelled : goal.returns-clause-spelled
returns-clause-spelled c entry_first text m spelled accepted plain short =
    c.canonical_spells.ensures (counted entry_first m) (returns-clause-spellable c entry_first m accepted plain short (c.spelled_is_spellable.ensures text m spelled))

pub returns-clause-alone : goal.returns-clause-alone
returns-clause-alone c entry_first text m n spelled accepted plain short read =
    c.printed_once.ensures (canonical (counted entry_first m)) (counted entry_first m) n (returns-clause-spelled c entry_first text m spelled accepted plain short) read
