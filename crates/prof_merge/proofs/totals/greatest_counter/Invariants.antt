use Rattle.std.proofs.Common.{◌≡◌, take}
use Rattle.prof_text.specs.Record.{values_of}
use Rattle.prof_merge.specs.Show.{all_counters, greatest_of}
use Rattle.prof_merge.proofs.totals.greatest_counter.Given as goal

abbrev pub invariant-loop-record : goal.invariant-loop-record
invariant-loop-record l = l.greatest ≡ greatest_of (all_counters (values_of (take l.record-index l.records)))
