use Rattle.std.proofs.Common.{ℕ, List, length, arith, ap}
use Rattle.block_search.proofs.Ranges.{cut_size}
use Rattle.block_search.proofs.rows.Rows.row.Goals as goal

pub part-requires-clause-within : goal.part-requires-clause-within
part-requires-clause-within c =
    let seen = ap (λ (rs : List (List ℕ)). length rs) c.self.view_is in
    let read = ap (λ (es : List ℕ). length es) c.as_slice.ensures.value in
    omega (arith, c.requires, cut_size 0 c.self.inside.ends.items c.self.inside.targets.items, seen, read)
