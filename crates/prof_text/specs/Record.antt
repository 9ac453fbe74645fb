-- The plain value of an owned record.
use Rattle.std.specs.Prelude.{List, map}
use Rattle.prof_view.specs.Profile.{ProfileRecord}
use Rattle.prof_text.specs.declared.record.ProfRecord.{ProfRecord}

abbrev pub value_of : ProfRecord → ProfileRecord
value_of r = record { name = r.name; hash = r.hash; counters = r.counters; sites = r.sites }

abbrev pub values_of : List ProfRecord → List ProfileRecord
values_of rs = map value_of rs
