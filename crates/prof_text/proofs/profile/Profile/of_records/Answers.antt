use Rattle.std.proofs.Common.{List, subst}
use Rattle.prof_text.specs.Merged.{of_key}
use Rattle.prof_text.specs.Record.{values_of}
use Rattle.prof_text.specs.Gathered.{Gathers}
use Rattle.prof_text.specs.declared.record.ProfRecord.{ProfRecord}
use Rattle.prof_text.proofs.profile.Profile.of_records.Goals as goal

pub returns-clause-refused : goal.returns-clause-refused
returns-clause-refused c =
    let gathers : Gathers c.in_ok-gathered.gathered (λ key. of_key key (values_of c.args.records.items)) =
    subst (λ (rs : List ProfRecord). Gathers c.in_ok-gathered.gathered (λ key. of_key key (values_of rs))) c.as_slice.ensures.value c.in_ok-gathered.ensures in
    c.finish.ensures.refused (values_of c.args.records.items) gathers
