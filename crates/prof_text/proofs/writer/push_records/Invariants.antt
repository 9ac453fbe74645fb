use Rattle.std.proofs.Common.{◌≡◌, ◌++◌, take}
use Rattle.std.specs.List.{flat_map}
use Rattle.prof_text.specs.Record.{values_of}
use Rattle.prof_text.specs.Text.{record_text}
use Rattle.prof_text.proofs.writer.push_records.Given as goal

abbrev pub invariant-loop-record : goal.invariant-loop-record
invariant-loop-record l = l.out.items ≡ l.initial.out.items ++ flat_map record_text (values_of (take l.record-index l.records))
