use Rattle.std.proofs.Common.{◌≡◌, take}
use Rattle.prof_text.specs.Record.{values_of}
use Rattle.prof_merge.specs.Show.{total, site_count}
use Rattle.prof_merge.proofs.totals.site_total.Given as goal

abbrev pub invariant-loop-record : goal.invariant-loop-record
invariant-loop-record l = l.count ≡ total site_count (values_of (take l.record-index l.records))
