-- When records can't be merged: two of one key have other numbers of counters, or else of sites.
use Rattle.std.specs.Prelude.{◌≡◌, ◌==◌, ℕ, Bool, not, List, [], ◌∷◌, Option, Some, None, length, map, find}
use Rattle.std.specs.declared.cmp.Ordering.TheVariants.{Less}
use Rattle.std.specs.Option.{option_map}
use Rattle.prof_view.specs.Profile.{ProfileRecord}
use Rattle.prof_text.specs.Merged.{Key, key_cmp, of_key}
use Rattle.prof_text.specs.declared.error.MergeError.{MergeError}
use Rattle.prof_text.specs.declared.error.MergeError.TheVariants.{CounterMismatch, SiteMismatch, HeaderMismatch, NoMemory}

abbrev pub counter_numbers : List ProfileRecord → List ℕ
counter_numbers records = map (λ (r : ProfileRecord). length r.counters) records

abbrev pub site_numbers : List ProfileRecord → List ℕ
site_numbers records = map (λ (r : ProfileRecord). length r.sites) records

abbrev pub differs_from : ℕ → ℕ → Bool
differs_from n m = not (m == n)

-- the first number, and the first that differs from it, where one does
abbrev pub differing : List ℕ → Option (ℕ × ℕ)
differing [] = None
differing (n ∷ ns) = option_map (λ (m : ℕ). (n, m)) (find (differs_from n) (n ∷ ns))

-- The records of one key can be summed
pub record Fit (records : List ProfileRecord) : Type 0 where
  pub counters : differing (counter_numbers records) ≡ None
  pub sites : differing (site_numbers records) ≡ None

abbrev pub LesserFit : Key → List ProfileRecord → Type 0
LesserFit key records = (k : Key) → key_cmp k key ≡ Less → Fit (of_key k records)

-- The least key whose records can't be summed differs in its numbers of counters: its first record's, and the first other
pub record IsCounterMismatch (records : List ProfileRecord) (key : Key) (first other : ℕ) : Type 0 where
  pub differ : differing (counter_numbers (of_key key records)) ≡ Some (first, other)
  pub lesser : LesserFit key records

-- The same in its numbers of sites, while its numbers of counters agree
pub record IsSiteMismatch (records : List ProfileRecord) (key : Key) (first other : ℕ) : Type 0 where
  pub counters : differing (counter_numbers (of_key key records)) ≡ None
  pub differ : differing (site_numbers (of_key key records)) ≡ Some (first, other)
  pub lesser : LesserFit key records

-- Why records are not merged; want of memory may come at any time
abbrev pub IsMismatch : List ProfileRecord → MergeError → Type 0
IsMismatch records (CounterMismatch name hash first other) = IsCounterMismatch records (name, hash) first other
IsMismatch records (SiteMismatch name hash first other) = IsSiteMismatch records (name, hash) first other
IsMismatch records (HeaderMismatch input first other) = ⊥
IsMismatch records NoMemory = Unit {0}
