-- The running sums of the records of one key.
use Rattle.std.specs.Prelude.{◌≡◌, ◌<◌, ℕ, List, [], Option, Some, None, length, find, sum_by, slice_index, slice_index_or, slice_get}
use Rattle.prof_view.specs.Profile.{ProfileRecord}
use Rattle.prof_text.specs.Merged.{Target, capped, counter_at, targets_at}
use Rattle.prof_text.specs.Mismatch.{counter_numbers, site_numbers, differs_from}

-- The sums of the records' counters, and the first number of counters that differs from the first record's. The sums are
-- kept up only where the numbers agree
pub record IsCounterTally (counters : List ℕ) (other : Option ℕ) (records : List ProfileRecord) : Type 0 where
  pub number : slice_get (counter_numbers records) 0 ≡ Some (length counters)
  pub differs : other ≡ find (differs_from (length counters)) (counter_numbers records)
  pub sums : other ≡ None → (i : ℕ) → slice_index counters i ≡ capped (sum_by (counter_at i) records)

-- The same of the sites: the targets of each are kept as they came
pub record IsSiteTally (sites : List (List Target)) (other : Option ℕ) (records : List ProfileRecord) : Type 0 where
  pub number : slice_get (site_numbers records) 0 ≡ Some (length sites)
  pub differs : other ≡ find (differs_from (length sites)) (site_numbers records)
  pub targets : other ≡ None → (s : ℕ) → s < length sites → slice_index_or sites s [] ≡ targets_at s records
