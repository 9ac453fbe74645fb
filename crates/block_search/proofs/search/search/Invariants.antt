use Rattle.std.proofs.Common.{◌+◌, length}
use Rattle.block_search.specs.Search.{Found}
use Rattle.block_search.proofs.Spreads.{unmarked}
use Rattle.block_search.proofs.search.search.Given as goal

abbrev pub invariant-loop-block : goal.invariant-loop-block
invariant-loop-block l = Found l.rows l.marks l.work.items

abbrev pub decreases-loop-block : goal.decreases-loop-block
decreases-loop-block l = unmarked l.marks + length l.work.items
