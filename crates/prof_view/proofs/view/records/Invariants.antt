use Rattle.std.proofs.Common.{◌≡◌, [], length}
use Rattle.prof_view.specs.Lines.{content}
use Rattle.prof_view.proofs.ViewLemmas.{records_from}
use Rattle.prof_view.proofs.view.records.Given as goal

abbrev pub invariant-loop-rest : goal.invariant-loop-rest
invariant-loop-rest l = records_from l.found.items (content l.rest) ≡ records_from [] (content l.fn.text)

abbrev pub decreases-loop-rest : goal.decreases-loop-rest
decreases-loop-rest l = length (content l.rest)
