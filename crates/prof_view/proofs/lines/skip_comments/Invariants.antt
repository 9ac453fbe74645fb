use Rattle.std.proofs.Common.{◌≡◌, length}
use Rattle.prof_view.specs.Lines.{content}
use Rattle.prof_view.proofs.lines.skip_comments.Given as goal

abbrev pub invariant-loop-rest : goal.invariant-loop-rest
invariant-loop-rest l = content l.rest ≡ content l.fn.text

abbrev pub decreases-loop-rest : goal.decreases-loop-rest
decreases-loop-rest l = length l.rest
