use Rattle.std.proofs.Common.{◌≡◌, ◌<◌, ℕ, get_or, [], length}
use Rattle.prof_text.specs.Merged.{IsMergedSite}
use Rattle.prof_text.specs.Site.{sites_of}
use Rattle.prof_text.proofs.site.merged_sites.Given as goal

abbrev pub invariant-loop-targets : goal.invariant-loop-targets
invariant-loop-targets l =
    (length l.merged.items ≡ l.targets-index)
    × ((s : ℕ) → s < l.targets-index → IsMergedSite (get_or (sites_of l.sites) s []) (get_or l.merged.items s []))
