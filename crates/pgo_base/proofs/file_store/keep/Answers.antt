-- The call that is pushed is the one gained.
use Rattle.pgo_base.proofs.ShelfLemmas.{gained_push}
use Rattle.std.proofs.Common.{refl}
use Rattle.pgo_base.proofs.file_store.keep.Goals as goal

pub returns : goal.returns
returns c = rw (rw c.unwrap.ensures at c.push.ensures.items) (gained_push _ _ _ refl)
