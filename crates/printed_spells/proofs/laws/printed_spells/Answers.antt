use Rattle.printed_spells.proofs.laws.printed_spells.Goals as goal

pub returns : goal.returns
returns c = λ text m h. c.canonical_spells.ensures m (c.spelled_is_spellable.ensures text m h)
