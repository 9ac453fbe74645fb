-- The entry that is pushed is the newest of its name.
use Rattle.pgo_base.proofs.ShelfLemmas.{puts_push}
use Rattle.pgo_base.proofs.shelf.Shelf.put.Goals as goal

pub returns-clause-puts : goal.returns-clause-puts
returns-clause-puts c = rw c.in_ok-push.ensures.items (puts_push c.args.self.now.writes.items (record { name = c.in_ok-from_str.field-0; bytes = c.in_ok-from_slice.field-0 }) _ _ c.in_ok-from_str.ensures.ok c.in_ok-from_slice.ensures.items)
