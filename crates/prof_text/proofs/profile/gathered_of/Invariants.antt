use Rattle.std.proofs.Common.{take}
use Rattle.prof_text.specs.Merged.{of_key}
use Rattle.prof_text.specs.Record.{values_of}
use Rattle.prof_text.specs.Gathered.{Gathers}
use Rattle.prof_text.proofs.profile.gathered_of.Given as goal

abbrev pub invariant-loop-record : goal.invariant-loop-record
invariant-loop-record l = Gathers l.gathered (λ key. of_key key (values_of (take l.record-index l.records)))
