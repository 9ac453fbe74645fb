use Rattle.std.proofs.Common.{◌≡◌, sum, take}
use Rattle.prof_text.specs.Merged.{capped}
use Rattle.prof_text.specs.Record.{values_of}
use Rattle.prof_merge.specs.Show.{all_counters}
use Rattle.prof_merge.proofs.totals.counter_sum.Given as goal

abbrev pub invariant-loop-record : goal.invariant-loop-record
invariant-loop-record l = l.sum ≡ capped (sum (all_counters (values_of (take l.record-index l.records))))
