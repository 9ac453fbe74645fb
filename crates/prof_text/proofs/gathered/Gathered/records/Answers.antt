use Rattle.prof_text.specs.Merged.{of_key}
use Rattle.prof_text.proofs.GatherLemmas.{reordered}
use Rattle.prof_text.proofs.gathered.Gathered.records.Goals as goal

pub returns-clause-merged : goal.returns-clause-merged
returns-clause-merged c records gathers =
    c.records_of.ensures.merged records (reordered c.args.self.tallies c.sort_keys.new.self (λ key. of_key key records) c.sort_keys.ensures.reordered.2 gathers)

pub returns-clause-refused : goal.returns-clause-refused
returns-clause-refused c records gathers =
    c.records_of.ensures.refused records (reordered c.args.self.tallies c.sort_keys.new.self (λ key. of_key key records) c.sort_keys.ensures.reordered.2 gathers)
