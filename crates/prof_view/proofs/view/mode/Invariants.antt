use Rattle.std.proofs.Common.{◌≡◌, false, length}
use Rattle.prof_view.specs.Lines.{content}
use Rattle.prof_view.proofs.ViewLemmas.{mode_from}
use Rattle.prof_view.proofs.view.mode.Given as goal

abbrev pub invariant-loop-rest : goal.invariant-loop-rest
invariant-loop-rest l = mode_from l.entry_first (content l.rest) ≡ mode_from false (content l.fn.text)

abbrev pub decreases-loop-rest : goal.decreases-loop-rest
decreases-loop-rest l = length (content l.rest)
