use Rattle.std.proofs.Common.{◌≡◌, ◌+◌, min, sum, take}
use Rattle.prof_text.specs.Merged.{most}
use Rattle.prof_merge.proofs.totals.sum_from.Given as goal

abbrev pub invariant-loop-number : goal.invariant-loop-number
invariant-loop-number l = l.sum ≡ min (l.fn.start + sum (take l.number-index l.numbers)) most
