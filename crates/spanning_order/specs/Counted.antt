-- The edges that keep a counter beside a spanning order.
use Rattle.std.specs.Prelude.{◌≡◌, ℕ, ◌<◌, List, AllPairs}
use Rattle.spanning_order.specs.Lists.{Among}

-- by rising number, of so many edges all outside the order; edge 0 may be among them even if the order has it
pub record AreCounted (edges : ℕ) (order counted : List ℕ) : Type 0 where
  pub rising : AllPairs (λ j k. j < k) counted
  pub outside : (k : ℕ) → k < edges → ¬ Among k order → Among k counted
  pub edges_only : (k : ℕ) → Among k counted → k < edges
  pub no_others : (k : ℕ) → Among k counted → Among k order → k ≡ 0
