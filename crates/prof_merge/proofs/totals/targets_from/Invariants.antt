use Rattle.std.proofs.Common.{◌≡◌, ◌+◌, min, sum_by, List, length, take}
use Rattle.prof_text.specs.Merged.{most, Target}
use Rattle.prof_merge.proofs.totals.targets_from.Given as goal

abbrev pub invariant-loop-site : goal.invariant-loop-site
invariant-loop-site l = l.targets ≡ min (l.fn.start + sum_by (λ (site : List Target). length site) (take l.site-index l.sites)) most
