use Rattle.std.proofs.Common.{List, ◌++◌, take}
use Rattle.prof_view.specs.Profile.{ProfileRecord}
use Rattle.prof_text.specs.Merged.{of_key}
use Rattle.prof_text.specs.Gathered.{Gathers}
use Rattle.prof_merge.proofs.parts.put_view.Given as goal

abbrev pub invariant-loop-i : goal.invariant-loop-i
invariant-loop-i l = (before : List ProfileRecord) → Gathers l.initial.gathered (λ key. of_key key before) → Gathers l.gathered (λ key. of_key key (before ++ take l.i l.view.records))
