-- The flow that has given counters.
use Rattle.std.specs.Prelude.{◌≡◌, ◌≢◌, ℕ, ◌<◌, List, ℤ, pos, ◌≤ℤ◌, Some, length, slice_get, slice_index}
use Rattle.ir_tree.specs.Flows.{IsFlow}
use Rattle.ir_tree.specs.declared.edge.Edge.{Edge}
use Rattle.spanning_order.specs.Lists.{Among}
use Rattle.spanning_order.specs.Spanning.{IsSpanningOrder, EndsAreNodes}
use Rattle.spanning_order.specs.Counted.{AreCounted}
use Rattle.flow_solve.specs.declared.answer.SolveError.{SolveError}
use Rattle.flow_solve.specs.declared.answer.SolveError.TheVariants.{Inconsistent, EntryDiffers}

-- each counted edge outside the order has its counter
abbrev pub HasCounters : List ℕ → List ℕ → List ℕ → (ℕ → ℤ) → Type 0
HasCounters order counted counters x = (c : ℕ) → c < length counted → ¬ Among (slice_index counted c) order → x (slice_index counted c) ≡ pos (slice_index counters c)

-- a flow with the counters of the edges outside the order; a counter of an edge in the order is left aside
pub record Solves (edges : List Edge) (order counted counters : List ℕ) (x : ℕ → ℤ) : Type 0 where
  pub flow : IsFlow edges x
  pub kept : HasCounters order counted counters x

-- the value is a count of 64 bits
abbrev pub IsCount : ℤ → Type 0
IsCount z = (pos 0 ≤ℤ z) × (z ≤ℤ pos 18446744073709551615)

-- the counts are the flow; and where the order has the entry edge and it is counted, its counter is its count
pub record AreSolved (edges : List Edge) (order counted counters counts : List ℕ) : Type 0 where
  pub solves : Solves edges order counted counters (λ k. pos (slice_index counts k))
  pub entry : (c : ℕ) → c < length counted → slice_index counted c ≡ 0 → slice_index counters c ≡ slice_index counts 0

-- of so many edges the least whose value is no count, with that value
pub record IsLeastMisfit (edges : ℕ) (flow : ℕ → ℤ) (k : ℕ) (value : ℤ) : Type 0 where
  pub is_edge : k < edges
  pub value_is : flow k ≡ value
  pub misfit : ¬ IsCount (flow k)
  pub least : (j : ℕ) → j < k → IsCount (flow j)

-- each value is a count, but the counter of the entry edge, which the order has, is not its value
pub record EntryIsOff (edges : ℕ) (order counted counters : List ℕ) (flow : ℕ → ℤ) (counter : ℕ) : Type 0 where
  pub fits : (k : ℕ) → k < edges → IsCount (flow k)
  pub in_order : Among 0 order
  pub is_counted : slice_get counted 0 ≡ Some 0
  pub counter_is : counter ≡ slice_index counters 0
  pub differs : flow 0 ≢ pos counter

abbrev pub IsCause : List Edge → List ℕ → List ℕ → List ℕ → (ℕ → ℤ) → SolveError → Type 0
IsCause edges order counted counters flow (Inconsistent k value) = IsLeastMisfit (length edges) flow k value
IsCause edges order counted counters flow (EntryDiffers counter) = EntryIsOff (length edges) order counted counters flow counter

-- the flow with these counters, and what is wrong with it
pub record IsRefused (edges : List Edge) (order counted counters : List ℕ) (error : SolveError) : Type 0 where
  pub flow : ℕ → ℤ
  pub solves : Solves edges order counted counters flow
  pub cause : IsCause edges order counted counters flow error

-- there is a flow with these counters, and every other is the same on each edge
pub record HasOneFlow (edges : List Edge) (order counted counters : List ℕ) : Type 0 where
  pub flow : ℕ → ℤ
  pub solves : Solves edges order counted counters flow
  pub only : (x : ℕ → ℤ) → Solves edges order counted counters x → (k : ℕ) → k < length edges → x k ≡ flow k

abbrev pub HaveOneFlow : List Edge → ℕ → List ℕ → List ℕ → List ℕ → Type 0
HaveOneFlow edges nodes order counted counters = EndsAreNodes edges nodes → IsSpanningOrder edges nodes order → AreCounted (length edges) order counted → length counters ≡ length counted → HasOneFlow edges order counted counters
