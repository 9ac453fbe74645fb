use Rattle.std.proofs.Common.{◌≡◌, take}
use Rattle.prof_text.specs.Record.{values_of}
use Rattle.prof_merge.specs.Show.{total, counter_count}
use Rattle.prof_merge.proofs.totals.counter_total.Given as goal

abbrev pub invariant-loop-record : goal.invariant-loop-record
invariant-loop-record l = l.count ≡ total counter_count (values_of (take l.record-index l.records))
