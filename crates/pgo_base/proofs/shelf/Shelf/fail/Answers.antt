-- The call that is pushed is the one gained.
use Rattle.std.proofs.Common.{}
use Rattle.pgo_base.proofs.ShelfLemmas.{gained_push}
use Rattle.pgo_base.proofs.shelf.Shelf.fail.Goals as goal

pub returns-clause-gained : goal.returns-clause-gained
returns-clause-gained c = rw c.in_ok-push.ensures.items (gained_push _ _ _ c.in_ok-call.ensures)
