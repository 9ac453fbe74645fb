-- The call is gained where its write was put.
use Rattle.std.proofs.Common.{◌≡◌, [], ◌∷◌, ◌++◌, ap}
use Rattle.pgo_base.proofs.ShelfLemmas.{gained_push}
use Rattle.pgo_base.proofs.shelf.Shelf.fail_write.Goals as goal

pub returns-clause-gained : goal.returns-clause-gained
returns-clause-gained c =
    let pushed : c.push.new.self.items ≡ c.put.new.self.failed.items ++ c.in_ok-call.call ∷ [] = rw c.unwrap.ensures at c.push.ensures.items in
    let kept : c.put.new.self.failed.items ≡ c.reserve.new.self.items = ap (λ v. v.items) c.in_ok-put.ensures.failed in
    rw (pushed, kept, c.in_ok-reserve.ensures.items) (gained_push _ _ _ c.in_ok-call.ensures)
