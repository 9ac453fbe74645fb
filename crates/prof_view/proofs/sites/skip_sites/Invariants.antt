use Rattle.std.proofs.Common.{◌≡◌}
use Rattle.prof_view.specs.Lines.{content}
use Rattle.prof_view.specs.Times.{rest_behind}
use Rattle.prof_view.specs.Grammar.{site}
use Rattle.prof_view.proofs.sites.skip_sites.Given as goal

abbrev pub invariant-loop-left : goal.invariant-loop-left
invariant-loop-left l = rest_behind site l.left (content l.rest) ≡ rest_behind site l.count (content l.fn.text)

abbrev pub decreases-loop-left : goal.decreases-loop-left
decreases-loop-left l = l.left
