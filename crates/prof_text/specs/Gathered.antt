-- Records that are gathered by their keys.
use Rattle.std.specs.Prelude.{◌≡◌, ℕ, Bool, List, [], ◌++◌, cond, Option, Some, None}
use Rattle.std.specs.declared.cmp.Ordering.{Ordering}
use Rattle.std.specs.Ordering.{is_eq}
use Rattle.std.specs.Borrow.{Bor}
use Rattle.indexmap.specs.IndexMap.{IndexMap, get_by}
use Rattle.prof_view.specs.Profile.{ProfileRecord}
use Rattle.prof_text.specs.Merged.{Key, key_cmp}
use Rattle.prof_text.specs.Tally.{Tallies}
use Rattle.prof_text.specs.declared.tally.Tally.{Tally}
use Rattle.prof_text.specs.declared.gathered.Gathered.{Gathered}

-- a borrowed key
abbrev pub plain_key : Bor (List ℕ) × ℕ → Key
plain_key k = (k.0.now, k.1)

abbrev pub borrowed_key_cmp : Bor (List ℕ) × ℕ → Bor (List ℕ) × ℕ → Ordering
borrowed_key_cmp x y = key_cmp (plain_key x) (plain_key y)

-- whether a borrowed key is this one
abbrev pub is_key : Key → Bor (List ℕ) × ℕ → Bool
is_key key k = is_eq (key_cmp key (plain_key k))

-- the tally of a key's records: none where there are none
abbrev pub IsTallyAt : Option Tally → List ProfileRecord → Type 0
IsTallyAt None records = records ≡ []
IsTallyAt (Some tally) records = Tallies tally records

-- each key has the tally of the records that f gives it
abbrev pub GathersIn : {S : Type 0} → IndexMap (Bor (List ℕ) × ℕ) Tally S → (Key → List ProfileRecord) → Type 0
GathersIn tallies f = (key : Key) → IsTallyAt (get_by (is_key key) tallies) (f key)

abbrev pub Gathers : Gathered → (Key → List ProfileRecord) → Type 0
Gathers g f = GathersIn g.tallies f

-- the records of one key, put behind those that f gives it
abbrev pub with_records : (Key → List ProfileRecord) → Key → List ProfileRecord → Key → List ProfileRecord
with_records f key records k = cond (is_eq (key_cmp k key)) (f k ++ records) (f k)
