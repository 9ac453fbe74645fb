use Rattle.std.proofs.Common.{◌≡◌}
use Rattle.prof_view.specs.Lines.{content}
use Rattle.prof_view.specs.Times.{rest_behind}
use Rattle.prof_view.specs.Grammar.{target_line}
use Rattle.prof_view.proofs.targets.skip_targets.Given as goal

abbrev pub invariant-loop-left : goal.invariant-loop-left
invariant-loop-left l = rest_behind target_line l.left (content l.rest) ≡ rest_behind target_line l.count (content l.fn.text)

abbrev pub decreases-loop-left : goal.decreases-loop-left
decreases-loop-left l = l.left
