use Rattle.std.proofs.Common.{◌≡◌, max, fold, take}
use Rattle.prof_merge.proofs.totals.greatest_from.Given as goal

abbrev pub invariant-loop-number : goal.invariant-loop-number
invariant-loop-number l = l.greatest ≡ fold (λ a n. max a n) l.fn.start (take l.number-index l.numbers)
