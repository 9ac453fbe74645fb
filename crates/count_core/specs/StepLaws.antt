-- What tables that stand on the machine are told of it.
use Rattle.std.specs.Prelude.{◌≡◌, ◌≢◌, ◌↔◌, ℕ, ◌+◌, ◌%◌, ◌^◌, ◌<◌, true, [], ◌∷◌, slice_index, slice_set, sum_by, Some, None}
use mathlib.Core.Option.{some}
use lib.ListN.{get_elem?}
use Rattle.count_core.specs.declared.state.Walk.{Walk}
use Rattle.count_core.specs.declared.state.CoreView.{CoreView}
use Rattle.count_core.specs.declared.state.CoreState.{CoreState}
use Rattle.count_core.specs.Layout.{key_at, count_at, dropped_at, ticket_at}
use Rattle.count_core.specs.CoreView.{spent, raised, merged, is_kept}
use Rattle.count_core.specs.CoreState.{key_of, count_of, dropped_of, ticket_of, IsSound, IsSite, IsCore}
use Rattle.count_core.specs.CoreStep.{moved, walk_to, walking_on, claiming, having_asked, having_drawn, cut, taking}

-- the view looks at a place of a site for a key
abbrev pub looking : CoreState → ℕ → CoreView → ℕ → ℕ → ℕ → CoreState
looking s id v site key place = moved s (key_at s.layout site place) (key_of s site place) id (walking_on v (walk_to s site key place))

-- Which steps of the view v, which is that of the seat id, keep the counters, the tickets and the shares.
pub record SoundSteps (all : ℕ) (s : CoreState) (id : ℕ) (v : CoreView) : Type 0 where
  pub adds : (i k : ℕ) → i < s.layout.counters → IsSound all (moved s i ((slice_index s.words i + k) % 2 ^ 64) id (record v { added = raised v.added i k }))
  pub draws : ticket_of s < 2 ^ 32 → IsSound all (moved s (ticket_at s.layout) (ticket_of s + 1) id (having_drawn v (ticket_of s) s.layout.numbers))
  pub cuts : (k : ℕ) → 0 < k → k < v.shares → IsSound all (cut s id v k)
  pub joins : (other : ℕ) (u : CoreView) → get_elem? (slice_set s.views id (merged v u)) other ≡ some u → IsSound all (taking s id v other u)

-- Which steps of the view v, which is that of the seat id, keep the rows too.
pub record RowSteps (all : ℕ) (s : CoreState) (id : ℕ) (v : CoreView) : Type 0 where
  -- a walk begins at the first place, goes on from a place with another key, and claims its place
  pub begins : v.walking ≡ None → (site key : ℕ) → site < s.layout.sites → 0 < s.layout.places → key ≢ 0 → IsCore all (looking s id v site key 0)
  pub goes_on : (w : Walk) → v.walking ≡ Some w → w.place + 1 < s.layout.places → w.winner ≢ 0 → w.winner ≢ w.key → IsCore all (looking s id v w.site w.key (w.place + 1))
  pub claims : (w : Walk) → v.walking ≡ Some w → IsCore all (claiming s id v w)
  -- it ends at its key, or at the last place if that has another key
  pub counts : (w : Walk) → v.walking ≡ Some w → w.winner ≡ w.key → IsCore all (moved s (count_at s.layout w.site w.place) ((count_of s w.site w.place + 1) % 2 ^ 64) id (having_asked v w))
  pub drops : (w : Walk) → v.walking ≡ Some w → w.place + 1 ≡ s.layout.places → w.winner ≢ 0 → w.winner ≢ w.key → IsCore all (moved s (dropped_at s.layout w.site) ((dropped_of s w.site + 1) % 2 ^ 64) id (having_asked v w))
  pub cuts : (k : ℕ) → 0 < k → k < v.shares → IsCore all (cut s id v k)
  pub joins : (other : ℕ) (u : CoreView) → get_elem? (slice_set s.views id (merged v u)) other ≡ some u → u.walking ≡ None → IsCore all (taking s id v other u)

-- each view with shares may make these steps
abbrev pub KeepSound : Type 0
KeepSound = (all : ℕ) (s : CoreState) (id : ℕ) (v : CoreView) → IsSound all s → get_elem? s.views id ≡ some v → 0 < v.shares → SoundSteps all s id v

abbrev pub KeepRows : Type 0
KeepRows = (all : ℕ) (s : CoreState) (id : ℕ) (v : CoreView) → IsCore all s → get_elem? s.views id ≡ some v → 0 < v.shares → RowSteps all s id v

-- what all views did is what one did that has all shares
abbrev pub OneDidAll : Type 0
OneDidAll = (all : ℕ) (s : CoreState) (id : ℕ) (v : CoreView) → IsSound all s → get_elem? s.views id ≡ some v → v.shares ≡ all → (f : CoreView → ℕ) → f spent ≡ 0 → sum_by f s.views ≡ f v

-- and each site is as if there were no other view
abbrev pub SitesOfOne : Type 0
SitesOfOne = (all : ℕ) (s : CoreState) (id : ℕ) (v : CoreView) → IsCore all s → get_elem? s.views id ≡ some v → v.shares ≡ all → (site : ℕ) → site < s.layout.sites → IsSite s.layout.places (key_of s site) (count_of s site) (dropped_of s site) site (v ∷ [])

-- a key is kept exactly where it is not 0 and stands at one of the first places
abbrev pub KeptStand : Type 0
KeptStand = (row : ℕ → ℕ) (n key : ℕ) → (is_kept row n key ≡ true) ↔ ((p : ℕ) × (p < n) × (row p ≡ key) × (key ≢ 0))
