use Rattle.std.proofs.Common.{◌≡◌, ◌++◌, List}
use Rattle.std.specs.List.{AllZip}
use Rattle.prof_view.specs.Profile.{ProfileRecord}
use Rattle.prof_text.specs.Merged.{of_key}
use Rattle.prof_text.specs.Record.{values_of}
use Rattle.prof_text.specs.Gathered.{GathersIn}
use Rattle.prof_text.proofs.WalkLemmas.{Entry, IsEntrySum}
use Rattle.prof_text.proofs.gathered.records_of.Given as goal

-- the entries so far, and the records that they gave
abbrev pub invariant-loop-name : goal.invariant-loop-name
invariant-loop-name l =
    (done : List Entry) × (l.fn.tallies.entries ≡ done ++ l.name-iterator)
    × ((recs : List ProfileRecord) → GathersIn l.fn.tallies (λ key. of_key key recs) → AllZip (IsEntrySum recs) done (values_of l.records.items))
