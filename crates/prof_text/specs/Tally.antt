-- What is kept of the records of one key while they are merged.
use Rattle.std.specs.Prelude.{◌≡◌, List, Some, None}
use Rattle.prof_view.specs.Profile.{ProfileRecord}
use Rattle.prof_text.specs.Merged.{Key}
use Rattle.prof_text.specs.Site.{sites_of}
use Rattle.prof_text.specs.Sums.{IsCounterTally, IsSiteTally}
use Rattle.prof_text.specs.Mismatch.{counter_numbers, site_numbers, differing}
use Rattle.prof_text.specs.declared.tally.Tally.{Tally}
use Rattle.prof_text.specs.declared.error.MergeError.{MergeError}
use Rattle.prof_text.specs.declared.error.MergeError.TheVariants.{CounterMismatch, SiteMismatch, HeaderMismatch, NoMemory}

pub record Tallies (tally : Tally) (records : List ProfileRecord) : Type 0 where
  pub counters : IsCounterTally tally.counters.items tally.other_counters records
  pub sites : IsSiteTally (sites_of tally.sites.items) tally.other_sites records

-- Why the records of the key can't be summed
abbrev pub IsMisfit : Key → List ProfileRecord → MergeError → Type 0
IsMisfit key records (CounterMismatch name hash first other) = (key ≡ (name, hash)) × (differing (counter_numbers records) ≡ Some (first, other))
IsMisfit key records (SiteMismatch name hash first other) = (key ≡ (name, hash)) × (differing (counter_numbers records) ≡ None) × (differing (site_numbers records) ≡ Some (first, other))
IsMisfit key records (HeaderMismatch input first other) = ⊥
IsMisfit key records NoMemory = Unit {0}
