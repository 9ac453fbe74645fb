-- Which steps are allowed in a state, and the state that each leaves.
use Rattle.std.specs.Prelude.{ℕ, ◌+◌, ◌-◌, ◌%◌, ◌^◌, Bool, true, false, ◌&&◌, not, ◌==◌, nat_lt, if◌then◌else◌, [], ◌∷◌, ◌++◌, slice_index, slice_index_or, slice_set, Option, Some, None}
use Rattle.count_core.specs.declared.state.Walk.{Walk}
use Rattle.count_core.specs.declared.state.CoreView.{CoreView}
use Rattle.count_core.specs.declared.state.CoreState.{CoreState}
use Rattle.count_core.specs.declared.step.CoreStep.{CoreStep}
use Rattle.count_core.specs.declared.step.CoreStep.TheVariants.{Add, Read, LoadKey, ClaimKey, AddCount, AddDropped, Draw, Split, Join}
use Rattle.count_core.specs.Layout.{key_at, count_at, dropped_at, ticket_at}
use Rattle.count_core.specs.CoreView.{fresh, spent, raised, merged}
use Rattle.count_core.specs.CoreState.{core, key_of, ticket_of}

-- The view of a seat. A seat past the end has no shares.
abbrev pub view_of : CoreState → ℕ → CoreView
view_of s seat = slice_index_or s.views seat spent

abbrev pub has_shares : CoreState → ℕ → Bool
has_shares s seat = nat_lt 0 (view_of s seat).shares

abbrev pub is_resting : Option Walk → Bool
is_resting None = true
is_resting (Some w) = false

-- the walk found another key at its place
abbrev pub is_passing : Walk → Bool
is_passing w = not (w.winner == 0) && not (w.winner == w.key)

-- a walk begins at place 0, and goes on to the next place
abbrev pub can_load : Option Walk → ℕ → ℕ → ℕ → Bool
can_load None site key place = (place == 0) && not (key == 0)
can_load (Some w) site key place = ((w.site == site) && (w.key == key)) && (is_passing w && (place == w.place + 1))

abbrev pub can_claim : Option Walk → ℕ → Bool
can_claim None place = false
can_claim (Some w) place = (w.place == place) && (w.winner == 0)

abbrev pub can_count : Option Walk → ℕ → Bool
can_count None place = false
can_count (Some w) place = (w.place == place) && (w.winner == w.key)

abbrev pub can_drop : Option Walk → ℕ → Bool
can_drop None places = false
can_drop (Some w) places = (w.place + 1 == places) && is_passing w

-- A step is made by a view with shares, and what it names is in range.
abbrev pub allowed : CoreState → CoreStep → Bool
allowed s (Add seat index step) = has_shares s seat && nat_lt index s.layout.counters
allowed s (Read seat index) = has_shares s seat && nat_lt index s.layout.counters
allowed s (LoadKey seat site key place) = has_shares s seat && ((nat_lt site s.layout.sites && nat_lt place s.layout.places) && can_load (view_of s seat).walking site key place)
allowed s (ClaimKey seat place) = has_shares s seat && (nat_lt place s.layout.places && can_claim (view_of s seat).walking place)
allowed s (AddCount seat place) = has_shares s seat && (nat_lt place s.layout.places && can_count (view_of s seat).walking place)
allowed s (AddDropped seat) = has_shares s seat && can_drop (view_of s seat).walking s.layout.places
allowed s (Draw seat) = has_shares s seat && nat_lt (ticket_of s) (2 ^ 32)
allowed s (Split seat shares) = is_resting (view_of s seat).walking && (nat_lt 0 shares && nat_lt shares (view_of s seat).shares)
allowed s (Join seat other) = (has_shares s seat && has_shares s other) && (not (seat == other) && (is_resting (view_of s seat).walking && is_resting (view_of s other).walking))

-- the view of a seat becomes w, and no word changes
abbrev pub seen : CoreState → ℕ → CoreView → CoreState
seen s seat w = core s.layout s.words (slice_set s.views seat w)

-- the word i becomes n, and the view of a seat w
abbrev pub moved : CoreState → ℕ → ℕ → ℕ → CoreView → CoreState
moved s i n seat w = core s.layout (slice_set s.words i n) (slice_set s.views seat w)

-- the walk that looks at a place
abbrev pub walk_to : CoreState → ℕ → ℕ → ℕ → Walk
walk_to s site key place = record { site = site; key = key; place = place; winner = key_of s site place }

abbrev pub walking_on : CoreView → Walk → CoreView
walking_on v w = record v { walking = Some w }

-- the word that a claim of an empty place leaves, and the key that has the place then
abbrev pub claimed : ℕ → ℕ → ℕ
claimed word key = if word == 0 then key else word

-- a view claims the place of its walk, and goes on with the key that has it then
abbrev pub claiming : CoreState → ℕ → CoreView → Walk → CoreState
claiming s seat v w =
    let kept = claimed (key_of s w.site w.place) w.key in
    moved s (key_at s.layout w.site w.place) kept seat (walking_on v (record w { winner = kept }))

abbrev pub after_claim : CoreState → ℕ → Option Walk → CoreState
after_claim s seat None = s
after_claim s seat (Some w) = claiming s seat (view_of s seat) w

-- the walk ends, and its site and key join what was asked
abbrev pub having_asked : CoreView → Walk → CoreView
having_asked v w = record v { asked = v.asked ++ (w.site, w.key) ∷ []; walking = None }

abbrev pub ended : CoreState → ℕ → ℕ → Walk → CoreState
ended s seat i w = moved s i ((slice_index s.words i + 1) % 2 ^ 64) seat (having_asked (view_of s seat) w)

abbrev pub after_count : CoreState → ℕ → Option Walk → CoreState
after_count s seat None = s
after_count s seat (Some w) = ended s seat (count_at s.layout w.site w.place) w

abbrev pub after_drop : CoreState → ℕ → Option Walk → CoreState
after_drop s seat None = s
after_drop s seat (Some w) = ended s seat (dropped_at s.layout w.site) w

-- the number joins what was drawn if it is one of the layout's
abbrev pub having_drawn : CoreView → ℕ → ℕ → CoreView
having_drawn v number numbers = record v { drawn = if nat_lt number numbers then v.drawn ++ number ∷ [] else v.drawn }

-- the view gave k of its shares away
abbrev pub lessened : CoreView → ℕ → CoreView
lessened v k = record v { shares = v.shares - k }

-- a new view has them
abbrev pub cut : CoreState → ℕ → CoreView → ℕ → CoreState
cut s seat v k = core s.layout s.words (slice_set s.views seat (lessened v k) ++ fresh k ∷ [])

-- the view v of a seat takes in another, u, which is spent
abbrev pub taking : CoreState → ℕ → CoreView → ℕ → CoreView → CoreState
taking s seat v other u = core s.layout s.words (slice_set (slice_set s.views seat (merged v u)) other spent)

abbrev pub after : CoreState → CoreStep → CoreState
after s (Add seat index step) =
    let v = view_of s seat in
    moved s index ((slice_index s.words index + step) % 2 ^ 64) seat (record v { added = raised v.added index step })
after s (Read seat index) = s
after s (LoadKey seat site key place) = seen s seat (walking_on (view_of s seat) (walk_to s site key place))
after s (ClaimKey seat place) = after_claim s seat (view_of s seat).walking
after s (AddCount seat place) = after_count s seat (view_of s seat).walking
after s (AddDropped seat) = after_drop s seat (view_of s seat).walking
after s (Draw seat) = moved s (ticket_at s.layout) (ticket_of s + 1) seat (having_drawn (view_of s seat) (ticket_of s) s.layout.numbers)
after s (Split seat shares) = cut s seat (view_of s seat) shares
after s (Join seat other) = taking s seat (view_of s seat) other (view_of s other)
