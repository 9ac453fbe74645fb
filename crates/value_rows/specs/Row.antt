-- The row of a site, against the keys that it asked for.
use Rattle.std.specs.Prelude.{◌≡◌, ◌≢◌, ℕ, ◌+◌, ◌<◌, ◌≤◌, Bool, not, ◌==◌, List, [], length, slice_index, slice_index_or, map, filter, count_by, All, AllPairs, Contains}
use Rattle.std.specs.List.{list_any}
use Rattle.value_rows.specs.declared.row.Row.{Row}

abbrev pub no_row : Row
no_row = record { kept = []; dropped = 0 }

-- the keys that were asked for at a site, in order
abbrev pub keys_asked : ℕ → List (ℕ × ℕ) → List ℕ
keys_asked site asked = map (λ e. e.1) (filter (λ e. e.0 == site) asked)

-- how often a key was asked for
abbrev pub occurrences : List ℕ → ℕ → ℕ
occurrences keys key = count_by (λ k. k == key) keys

abbrev pub has_key : List (ℕ × ℕ) → ℕ → Bool
has_key kept key = list_any (λ e. e.0 == key) kept

-- The row of a table with `places` places is exact for the keys that were asked for.
pub record IsExact (places : ℕ) (keys : List ℕ) (row : Row) : Type 0 where
  -- the kept keys are distinct, were asked for, and are no more than the places
  pub distinct : AllPairs (λ e f. e.0 ≢ f.0) row.kept
  pub occurs : All (λ e. 0 < occurrences keys e.0) row.kept
  pub few : length row.kept ≤ places
  -- each has its number of occurrences, and the others are counted together
  pub counted : All (λ e. e.1 ≡ occurrences keys e.0) row.kept
  pub others : row.dropped ≡ count_by (λ k. not (has_key row.kept k)) keys
  -- only a full row drops a key, and none where all are among as many keys as there are places
  pub full : 0 < row.dropped → length row.kept ≡ places
  pub fit : (these : List ℕ) → length these ≤ places → All (Contains these) keys → row.dropped ≡ 0

-- The list has the first keys of the row at `start`, as many as are not 0, each with its count.
pub record Reads (words : List ℕ) (start places : ℕ) (kept : List (ℕ × ℕ)) : Type 0 where
  pub few : length kept ≤ places
  pub ends : length kept < places → slice_index words (start + length kept) ≡ 0
  pub keys : (p : ℕ) → p < length kept → slice_index words (start + p) ≢ 0
  pub same : (p : ℕ) (d : ℕ × ℕ) → p < length kept → slice_index_or kept p d ≡ (slice_index words (start + p), slice_index words (start + (places + p)))
