use Rattle.std.proofs.Common.{◌≡◌, take}
use Rattle.prof_text.specs.Site.{sites_of}
use Rattle.prof_text.proofs.profile.borrowed_sites.Given as goal

abbrev pub invariant-loop-site : goal.invariant-loop-site
invariant-loop-site l = sites_of l.borrowed.items ≡ take l.site-index l.sites
