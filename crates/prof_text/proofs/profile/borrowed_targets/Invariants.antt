use Rattle.std.proofs.Common.{◌≡◌, take}
use Rattle.prof_text.specs.Site.{targets_of}
use Rattle.prof_text.proofs.profile.borrowed_targets.Given as goal

abbrev pub invariant-loop-name : goal.invariant-loop-name
invariant-loop-name l = targets_of l.targets.items ≡ take l.name-index l.site
