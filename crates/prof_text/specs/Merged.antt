-- What it is to merge records: key by key, over all records of the key, in plain sums that stop at 2^64 - 1.
use Rattle.std.specs.Prelude.{◌≡◌, ◌<◌, ℕ, Bool, List, [], ◌∷◌, length, map, min, filter, sum_by, slice_index, slice_index_or, All}
use Rattle.std.specs.declared.cmp.Ordering.{Ordering}
use Rattle.std.specs.Ordering.{is_eq, nat_cmp, ordering_then}
use Rattle.std.specs.Cmp.Lexicographic.{slice_cmp}
use Rattle.std.specs.List.{flat_map}
use Rattle.std.specs.List.Sorted.{IsStrictlySortedBy}
use Rattle.prof_view.specs.Profile.{ProfileRecord}

-- The target of a site: its name and its count
abbrev pub Target : Type 0
Target = List ℕ × ℕ

-- A record's key: its name and its hash
abbrev pub Key : Type 0
Key = List ℕ × ℕ

abbrev pub key_of : ProfileRecord → Key
key_of r = (r.name, r.hash)

-- names are in order by their bytes, and keys by name and then hash
abbrev pub name_cmp : List ℕ → List ℕ → Ordering
name_cmp = slice_cmp nat_cmp

abbrev pub key_cmp : Key → Key → Ordering
key_cmp a b = ordering_then (name_cmp a.0 b.0) (nat_cmp a.1 b.1)

-- the records of a key, in their order
abbrev pub has_key : Key → ProfileRecord → Bool
has_key key r = is_eq (key_cmp key (key_of r))

abbrev pub of_key : Key → List ProfileRecord → List ProfileRecord
of_key key records = filter (has_key key) records

-- the targets of a name, in their order
abbrev pub has_name : List ℕ → Target → Bool
has_name name target = is_eq (name_cmp name target.0)

abbrev pub of_name : List ℕ → List Target → List Target
of_name name targets = filter (has_name name) targets

-- the largest counter
abbrev pub most : ℕ
most = 18446744073709551615

abbrev pub capped : ℕ → ℕ
capped n = min n most

-- The targets of one name in a merged site: none where the name has none, else one with the capped sum of their counts
abbrev pub IsTotal : List ℕ → List Target → List Target → Type 0
IsTotal name [] merged = merged ≡ []
IsTotal name (t ∷ ts) merged = merged ≡ (name, capped (sum_by (λ (u : Target). u.1) (t ∷ ts))) ∷ []

-- A merged site lists each name of the targets once, by name, with the sum of the name's counts
pub record IsMergedSite (targets merged : List Target) : Type 0 where
  pub rises : IsStrictlySortedBy name_cmp (map (λ (t : Target). t.0) merged)
  pub totals : (name : List ℕ) → IsTotal name (of_name name targets) (of_name name merged)

abbrev pub counter_at : ℕ → ProfileRecord → ℕ
counter_at i r = slice_index r.counters i

abbrev pub site_at : ℕ → ProfileRecord → List Target
site_at s r = slice_index_or r.sites s []

-- the targets that the records have at site s
abbrev pub targets_at : ℕ → List ProfileRecord → List Target
targets_at s records = flat_map (site_at s) records

-- The record that sums the records of one key, which all have as many counters and as many sites
pub record IsSumOf (records : List ProfileRecord) (sum : ProfileRecord) : Type 0 where
  pub counters_alike : All (λ (r : ProfileRecord). length r.counters ≡ length sum.counters) records
  pub sites_alike : All (λ (r : ProfileRecord). length r.sites ≡ length sum.sites) records
  pub counters : (i : ℕ) → slice_index sum.counters i ≡ capped (sum_by (counter_at i) records)
  pub sites : (s : ℕ) → s < length sum.sites → IsMergedSite (targets_at s records) (site_at s sum)

-- The records of one key in a merged list: none where the key has none, else one, their sum
abbrev pub IsMergedKey : List ProfileRecord → List ProfileRecord → Type 0
IsMergedKey [] merged = merged ≡ []
IsMergedKey (r ∷ rs) merged = (sum : ProfileRecord) × (merged ≡ sum ∷ []) × IsSumOf (r ∷ rs) sum

-- A merged list has one record for each key of the records, by key, the sum of the key's records
pub record IsMerged (records merged : List ProfileRecord) : Type 0 where
  pub rises : IsStrictlySortedBy key_cmp (map key_of merged)
  pub keys : (key : Key) → IsMergedKey (of_key key records) (of_key key merged)
