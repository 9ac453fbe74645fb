-- The invariant of the machine, said of a state and the number of shares that it opened with.
use Rattle.std.specs.Prelude.{◌≡◌, ◌≢◌, ℕ, zero, suc, ◌%◌, ◌^◌, ◌<◌, ◌≤◌, min, List, [], ◌∷◌, ◌++◌, length, replicate, slice_index, sum_by, Some}
use mathlib.Core.Option.{some}
use lib.ListN.{get_elem?}
use Rattle.count_core.specs.declared.state.Layout.{Layout}
use Rattle.count_core.specs.declared.state.Walk.{Walk}
use Rattle.count_core.specs.declared.state.CoreView.{CoreView}
use Rattle.count_core.specs.declared.state.CoreState.{CoreState}
use Rattle.count_core.specs.Layout.{key_at, count_at, dropped_at, ticket_at, word_count}
use Rattle.count_core.specs.CoreView.{fresh, spent, shares_of, added_to, weight_of, asks, wants, is_kept, misses}

-- words and views of a layout
abbrev pub core : Layout → List ℕ → List CoreView → CoreState
core l words views = record { words = words; views = views; layout = l }

-- the words are 0, and one view has all shares
abbrev pub opening : Layout → ℕ → CoreState
opening l shares = core l (replicate (word_count l) 0) (fresh shares ∷ [])

abbrev pub key_of : CoreState → ℕ → ℕ → ℕ
key_of s site place = slice_index s.words (key_at s.layout site place)

abbrev pub count_of : CoreState → ℕ → ℕ → ℕ
count_of s site place = slice_index s.words (count_at s.layout site place)

abbrev pub dropped_of : CoreState → ℕ → ℕ
dropped_of s site = slice_index s.words (dropped_at s.layout site)

abbrev pub ticket_of : CoreState → ℕ
ticket_of s = slice_index s.words (ticket_at s.layout)

-- the numbers below n, in order
abbrev pub below : ℕ → List ℕ
below zero = []
below (suc n) = below n ++ n ∷ []

-- The counters, the tickets and the shares.
pub record IsSound (all : ℕ) (s : CoreState) : Type 0 where
  pub sized : length s.words ≡ word_count s.layout
  -- each counter's word is the sum of what all views added to it
  pub counted : (c : ℕ) → c < s.layout.counters → slice_index s.words c ≡ sum_by (added_to c) s.views % 2 ^ 64
  pub bounded : ticket_of s ≤ 2 ^ 32
  -- the numbers that all views drew are those below the ticket word and below `numbers`, each once: under every weighing h the two weigh the same
  pub drawn : (h : ℕ → ℕ) → sum_by (weight_of h) s.views ≡ sum_by h (below (min (ticket_of s) s.layout.numbers))
  pub shared : sum_by shares_of s.views ≡ all
  -- who has no shares has done nothing
  pub idle : (id : ℕ) (v : CoreView) → get_elem? s.views id ≡ some v → v.shares ≡ 0 → v ≡ spent

-- A site whose place p has the key `key p` and the count `count p`.
pub record IsSite (places : ℕ) (key count : ℕ → ℕ) (dropped : ℕ) (site : ℕ) (views : List CoreView) : Type 0 where
  -- the keys that are not 0 are the first ones, and distinct
  pub first : (p q : ℕ) → p < q → q < places → key q ≢ 0 → (key p ≢ 0) × (key p ≢ key q)
  -- some view asked for each of them, or walks with it
  pub wanted : (p : ℕ) → p < places → key p ≢ 0 → 0 < sum_by (wants site (key p)) views
  -- an empty place has the count 0, and while there is one every key that was asked for is kept
  pub vacant : (p : ℕ) → p < places → key p ≡ 0 → (count p ≡ 0) × (sum_by (misses (is_kept key places) site) views ≡ 0)
  -- a kept key's count is how often it was asked for
  pub counted : (p : ℕ) → p < places → key p ≢ 0 → count p ≡ sum_by (asks site (key p)) views % 2 ^ 64
  -- the dropped word is how often another key was asked for
  pub dropped_is : dropped ≡ sum_by (misses (is_kept key places) site) views % 2 ^ 64

-- A walk on its way along the places of its site.
pub record IsOnWay (l : Layout) (words : List ℕ) (w : Walk) : Type 0 where
  pub in_sites : w.site < l.sites
  pub in_places : w.place < l.places
  pub has_key : w.key ≢ 0
  -- the places before its own have other keys
  pub passed : (p : ℕ) → p < w.place → (slice_index words (key_at l w.site p) ≢ 0) × (slice_index words (key_at l w.site p) ≢ w.key)
  pub found : w.winner ≢ 0 → slice_index words (key_at l w.site w.place) ≡ w.winner

-- The rows of keys.
pub record HasRows (s : CoreState) : Type 0 where
  pub sites : (site : ℕ) → site < s.layout.sites → IsSite s.layout.places (key_of s site) (count_of s site) (dropped_of s site) site s.views
  pub walks : (id : ℕ) (v : CoreView) (w : Walk) → get_elem? s.views id ≡ some v → v.walking ≡ Some w → IsOnWay s.layout s.words w

-- The invariant.
pub record IsCore (all : ℕ) (s : CoreState) : Type 0 where
  pub sound : IsSound all s
  pub rows : HasRows s
