use Rattle.std.proofs.Common.{take}
use Rattle.std.specs.BTreeMap as tree
use Rattle.prof_text.specs.Site.{borrowed_cmp, targets_of}
use Rattle.prof_text.proofs.SiteLemmas.{Counted}
use Rattle.prof_text.proofs.site.counts_of.Given as goal

abbrev pub invariant-loop-name : goal.invariant-loop-name
invariant-loop-name l = Counted l.counts (targets_of (take l.name-index l.targets)) × tree.IsOrdered borrowed_cmp l.counts
