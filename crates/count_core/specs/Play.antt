-- What `play` asks of a state, and which steps it makes.
use Rattle.std.specs.Prelude.{◌≡◌, ℕ, ◌+◌, ◌^◌, ◌<◌, ◌≤◌, Bool, true, ◌&&◌, nat_lt, length, sum_by}
use mathlib.Core.Option.{some}
use lib.ListN.{get_elem?}
use Rattle.count_core.specs.declared.state.CoreView.{CoreView}
use Rattle.count_core.specs.declared.state.CoreState.{CoreState}
use Rattle.count_core.specs.declared.step.CoreStep.{CoreStep}
use Rattle.count_core.specs.declared.step.CoreStep.TheVariants.{Add, Read, LoadKey, ClaimKey, AddCount, AddDropped, Draw, Split, Join}
use Rattle.count_core.specs.CoreView.{shares_of, added_to}
use Rattle.count_core.specs.CoreState.{IsCore}
use Rattle.count_core.specs.CoreStep.{allowed}

-- The state meets the invariant, and its numbers fit their fields. An opening state is ready.
pub record IsReady (s : CoreState) : Type 0 where
  pub core : IsCore (sum_by shares_of s.views) s
  pub shares_fit : sum_by shares_of s.views < 2 ^ 32
  pub short : (id : ℕ) (v : CoreView) → get_elem? s.views id ≡ some v → length v.added ≤ s.layout.counters
  pub sums_fit : (c : ℕ) → c < s.layout.counters → sum_by (added_to c) s.views < 2 ^ 128

-- `play` makes no Add by which the sum for one counter would reach 2 ^ 128
abbrev pub fits : CoreState → CoreStep → Bool
fits s (Add seat index step) = nat_lt (sum_by (added_to index) s.views + step) (2 ^ 128)
fits s (Read seat index) = true
fits s (LoadKey seat site key place) = true
fits s (ClaimKey seat place) = true
fits s (AddCount seat place) = true
fits s (AddDropped seat) = true
fits s (Draw seat) = true
fits s (Split seat shares) = true
fits s (Join seat other) = true

abbrev pub can_play : CoreState → CoreStep → Bool
can_play s step = allowed s step && fits s step
