use Rattle.std.proofs.Common.{◌≡◌}
use Rattle.prof_text.specs.Site.{targets_of}
use Rattle.prof_text.proofs.site.listed.Given as goal

abbrev pub invariant-loop-name : goal.invariant-loop-name
invariant-loop-name l = l.site.items ≡ targets_of l.yielded
