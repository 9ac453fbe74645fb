use Rattle.canonical_text.specs.Canonical.{canonical}
use Rattle.printed_spells.proofs.Whole.{text_once}
use Rattle.printed_spells.proofs.laws.printed_once.Goals as goal

pub returns : goal.returns
returns c = λ text m n h k. text_once c.tokens_are_unique.ensures c.one_module.ensures (canonical m) n m k (c.printed_spells.ensures text m h)
