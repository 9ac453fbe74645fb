use Rattle.std.proofs.Common.{◌≡◌}
use Rattle.prof_text.specs.Site.{sites_of}
use Rattle.prof_merge.proofs.parts.sites_read.Given as goal

abbrev pub invariant-loop-site : goal.invariant-loop-site
invariant-loop-site l = sites_of l.sites.items ≡ l.yielded
