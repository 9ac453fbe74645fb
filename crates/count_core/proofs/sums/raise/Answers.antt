use Rattle.count_core.proofs.Lists.{raise_is}
use Rattle.count_core.proofs.sums.raise.Goals as goal

pub returns-clause-ok : goal.returns-clause-ok
returns-clause-ok c = raise_is _ _ _ _ _ _ c.in_ok-lengthen.ensures.ok c.as_mut_slice-sums.ensures.value c.from.ensures
