use Rattle.std.proofs.Common.{◌≡◌, take}
use Rattle.prof_text.specs.Record.{values_of}
use Rattle.prof_merge.specs.Show.{total, target_count}
use Rattle.prof_merge.proofs.totals.target_total.Given as goal

abbrev pub invariant-loop-record : goal.invariant-loop-record
invariant-loop-record l = l.count ≡ total target_count (values_of (take l.record-index l.records))
