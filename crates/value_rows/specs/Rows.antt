-- The layout of the rows, and what a step tells its seat.
use Rattle.std.specs.Prelude.{◌≡◌, ℕ, ◌+◌, ◌<◌, ◌≤◌, [], ◌∷◌, ◌++◌, Some, None}
use Rattle.atomic_table.specs.Table.{Me}
use Rattle.atomic_table.specs.Seated.{TableId}
use Rattle.count_core.specs.declared.state.Layout.{Layout}
use Rattle.count_core.specs.declared.state.Opening.{Opening}
use Rattle.count_core.specs.declared.state.Walk.{Walk}
use Rattle.count_core.specs.declared.state.CoreView.{CoreView}
use Rattle.count_core.specs.Layout.{word_count}
use Rattle.count_core.specs.CoreStep.{claimed}

-- there are rows and no counters or tickets
abbrev pub rows_only : ℕ → ℕ → Layout
rows_only sites places = record { counters = 0; sites = sites; places = places; numbers = 0 }

pub record IsLaidOut (sites places : ℕ) (key : Opening) (id : TableId) : Type 0 where
  pub layout : key.layout ≡ rows_only sites places
  pub words : id.words ≡ word_count (rows_only sites places)
  pub slots : id.slots ≡ 0
  pub some_place : 0 < places
  pub few_places : places ≤ 24

abbrev pub walk : ℕ → ℕ → ℕ → ℕ → Walk
walk site key place winner = record { site = site; key = key; place = place; winner = winner }

module _ {S : Type 0} where
  -- between two calls no seat walks
  pub record IsResting (m : Me S CoreView) : Type 0 where
    pub has : 0 < m.0.shares
    pub rests : m.0.walking ≡ None
    pub empty : m.1 ≡ []

  -- the seat walks, and is otherwise as before
  pub record Walks (w : Walk) (m n : Me S CoreView) : Type 0 where
    pub walking : n.0.walking ≡ Some w
    pub shares : n.0.shares ≡ m.0.shares
    pub asked : n.0.asked ≡ m.0.asked
    pub held : n.1 ≡ m.1

  -- the walk has ended, and its site and key joined what was asked
  pub record Asks (w : Walk) (m n : Me S CoreView) : Type 0 where
    pub rests : n.0.walking ≡ None
    pub shares : n.0.shares ≡ m.0.shares
    pub asked : n.0.asked ≡ m.0.asked ++ (w.site, w.key) ∷ []
    pub held : n.1 ≡ m.1

  -- what each step tells
  abbrev pub Began : ℕ → ℕ → Me S CoreView → ℕ → Me S CoreView → Type 0
  Began site key m word n = Walks (walk site key 0 word) m n

  abbrev pub WentOn : Me S CoreView → ℕ → Me S CoreView → Type 0
  WentOn m word n = (w : Walk) → m.0.walking ≡ Some w → Walks (walk w.site w.key (w.place + 1) word) m n

  abbrev pub Claimed : Me S CoreView → ℕ → Me S CoreView → Type 0
  Claimed m word n = (w : Walk) → m.0.walking ≡ Some w → Walks (walk w.site w.key w.place (claimed word w.key)) m n

  abbrev pub Ended : Me S CoreView → Me S CoreView → Type 0
  Ended m n = (w : Walk) → m.0.walking ≡ Some w → Asks w m n
