use Rattle.std.proofs.Common.{◌≡◌, take}
use Rattle.count_core.specs.CoreView.{joined}
use Rattle.count_core.proofs.sums.joined_sums.Given as goal

abbrev pub invariant-loop-index : goal.invariant-loop-index
invariant-loop-index l = l.sums.items ≡ take l.index (joined l.first l.second)
