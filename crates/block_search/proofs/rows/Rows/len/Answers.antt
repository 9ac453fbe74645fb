use Rattle.std.proofs.Common.{ℕ, List, length, arith, ap}
use Rattle.block_search.proofs.Ranges.{cut_size}
use Rattle.block_search.proofs.rows.Rows.len.Goals as goal

pub returns : goal.returns
returns c =
    let seen = ap (λ (rs : List (List ℕ)). length rs) c.self.view_is in
    omega (arith, cut_size 0 c.self.inside.ends.items c.self.inside.targets.items, seen, c.len.ensures, c.self.inside.ends.ok.0)
