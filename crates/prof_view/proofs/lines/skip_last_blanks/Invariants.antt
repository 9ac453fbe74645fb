use Rattle.std.proofs.Common.{◌≡◌, length, reverse}
use Rattle.prof_view.specs.Lines.{skip_blanks}
use Rattle.prof_view.proofs.lines.skip_last_blanks.Given as goal

abbrev pub invariant-loop-rest : goal.invariant-loop-rest
invariant-loop-rest l = reverse (skip_blanks (reverse l.rest)) ≡ reverse (skip_blanks (reverse l.fn.line))

abbrev pub decreases-loop-rest : goal.decreases-loop-rest
decreases-loop-rest l = length l.rest
