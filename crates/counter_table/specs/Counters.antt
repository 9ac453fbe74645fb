-- The layout of a counter table, and what a step tells its seat.
use Rattle.std.specs.Prelude.{◌≡◌, ℕ, ◌%◌, ◌^◌, slice_index}
use Rattle.atomic_table.specs.Table.{Me}
use Rattle.atomic_table.specs.Seated.{TableId}
use Rattle.count_core.specs.declared.state.Layout.{Layout}
use Rattle.count_core.specs.declared.state.Opening.{Opening}
use Rattle.count_core.specs.declared.state.CoreView.{CoreView}
use Rattle.count_core.specs.Layout.{word_count}
use Rattle.count_core.specs.CoreView.{raised}

-- there are counters and no rows or tickets
abbrev pub counters_only : ℕ → Layout
counters_only n = record { counters = n; sites = 0; places = 0; numbers = 0 }

pub record IsLaidOut (key : Opening) (id : TableId) : Type 0 where
  pub layout : key.layout ≡ counters_only key.layout.counters
  pub words : id.words ≡ word_count key.layout
  pub slots : id.slots ≡ 0

-- the seat added k to the counter i
abbrev pub Added : {S : Type 0} → ℕ → ℕ → Me S CoreView → Me S CoreView → Type 0
Added i k m n = n ≡ (record m.0 { added = raised m.0.added i k }, m.1)

-- the seat found a word. Where it has all shares the word is its own sum
abbrev pub Found : {S : Type 0} → ℕ → ℕ → Me S CoreView → ℕ → Me S CoreView → Type 0
Found all i m word n = (n ≡ m) × (m.0.shares ≡ all → word ≡ slice_index m.0.added i % 2 ^ 64)
