use Rattle.std.proofs.Common.{◌≡◌, ◌++◌, take}
use Rattle.std.specs.List.{flat_map}
use Rattle.prof_text.specs.Text.{site_text}
use Rattle.prof_text.proofs.writer.push_each_site.Given as goal

abbrev pub invariant-loop-site : goal.invariant-loop-site
invariant-loop-site l = l.out.items ≡ l.initial.out.items ++ flat_map site_text (take l.site-index l.sites)
