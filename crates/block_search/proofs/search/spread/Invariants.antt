use Rattle.std.proofs.Common.{◌≡◌, drop}
use Rattle.block_search.specs.Search.{spread}
use Rattle.block_search.proofs.search.spread.Given as goal

-- what is left of the row gives the same
abbrev pub invariant-loop-target : goal.invariant-loop-target
invariant-loop-target l = spread (drop l.target-index l.row) l.marks l.work.items ≡ spread l.row l.initial.marks l.initial.work.items
