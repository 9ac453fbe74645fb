use Rattle.std.proofs.Common.{◌≡◌, sym, subst}
use Rattle.std.proofs.lemmas.Result.{IfOk-weaker}
use Rattle.prof_text.specs.Merged.{IsMergedSite}
use Rattle.prof_text.specs.Site.{targets_of}
use Rattle.prof_text.proofs.SiteLemmas.{entries_are_merged}
use Rattle.prof_text.proofs.site.merged_site.Goals as goal

pub returns : goal.returns
returns c =
    IfOk-weaker c.listed.result (λ site. site ≡ targets_of c.in_ok-counts.counts.entries) (IsMergedSite (targets_of c.args.targets.now))
    (λ site same. subst (IsMergedSite (targets_of c.args.targets.now)) (sym same)
    (entries_are_merged c.in_ok-counts.counts.entries (targets_of c.args.targets.now) c.in_ok-counts.ensures.ordered c.in_ok-counts.ensures.totals))
    c.listed.ensures
