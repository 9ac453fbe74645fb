use Rattle.std.proofs.Common.{◌≡◌, ◌<◌, ◌^◌, All, length, take}
use Rattle.prof_text.specs.Record.{values_of}
use Rattle.prof_text.specs.declared.record.ProfRecord.{ProfRecord}
use Rattle.run_texts.specs.RunProfile.{records_of}
use Rattle.run_texts.proofs.records.records_of.Given as goal

abbrev pub invariant-loop-tally : goal.invariant-loop-tally
invariant-loop-tally l = record {
  values : values_of l.all.items ≡ records_of l.functions (take l.tally-index l.tallies) l.counters l.rows;
  counters : All (λ (r : ProfRecord). length r.counters < 2 ^ 32) l.all.items;
  sites : All (λ (r : ProfRecord). length r.sites < 2 ^ 32) l.all.items;
}
