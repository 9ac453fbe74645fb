-- The promises follow from the one end.
use Rattle.pgo_shell.proofs.PromiseLemmas.{promises}
use Rattle.pgo_shell.proofs.performing.perform.Goals as goal

pub returns-clause-promises : goal.returns-clause-promises
returns-clause-promises g c = promises _ _ _ _ c.end_of.ensures.end c.end_of.ensures.status_is c.end_of.ensures.ran c.end_of.ensures.causes
