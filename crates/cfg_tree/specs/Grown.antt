-- The spanning order that takes the heaviest edge each time.
use Rattle.std.specs.Prelude.{◌≡◌, ℕ, zero, suc, ◌+◌, ◌<◌, ◌≤◌, Bool, not, nat_lt, if◌then◌else◌, ◌⊎◌, List, [], ◌∷◌, Option, None, Some, slice_index}
use Rattle.ir_tree.specs.declared.edge.Edge.{Edge}
use Rattle.spanning_order.specs.Lists.{among}
use Rattle.spanning_order.specs.Spanning.{Joins, edge_at}

-- of all edges that link a reached node to a new one edge k is the heaviest, and among these the one with the least number
pub record IsBest (edges : List Edge) (weights reached : List ℕ) (k new : ℕ) : Type 0 where
  pub joins : Joins edges reached k new
  pub best : (j n : ℕ) → Joins edges reached j n → (slice_index weights j < slice_index weights k) ⊎ ((slice_index weights j ≡ slice_index weights k) × (k ≤ j))

-- each edge of the order is the best one, until none is left
abbrev pub IsGrown : List Edge → List ℕ → List ℕ → List ℕ → Type 0
IsGrown edges weights reached [] = (k new : ℕ) → ¬ Joins edges reached k new
IsGrown edges weights reached (k ∷ ks) = (new : ℕ) × IsBest edges weights reached k new × IsGrown edges weights (new ∷ reached) ks

-- ---- the same order, computed

-- one end of the edge is reached, and the other is not
abbrev pub joins_one : List ℕ → Edge → Bool
joins_one reached e = if among e.from reached then not (among e.to reached) else among e.to reached

abbrev pub new_end : List ℕ → Edge → ℕ
new_end reached e = if among e.from reached then e.to else e.from

-- edge k, or a heavier one behind it
abbrev pub better : List ℕ → ℕ → Option ℕ → ℕ
better weights k None = k
better weights k (Some j) = if nat_lt (slice_index weights k) (slice_index weights j) then j else k

-- the best of these edges, the first of which is number k
abbrev pub best_of : List ℕ → List ℕ → ℕ → List Edge → Option ℕ
best_of weights reached k [] = None
best_of weights reached k (e ∷ es) = if joins_one reached e then Some (better weights k (best_of weights reached (k + 1) es)) else best_of weights reached (k + 1) es

abbrev pub goes_on : (ℕ → List ℕ) → Option ℕ → List ℕ
goes_on next None = []
goes_on next (Some k) = next k

-- the order that joins so many nodes at most to the reached ones
unfoldable pub grown_order : ℕ → List Edge → List ℕ → List ℕ → List ℕ
grown_order zero edges weights reached = []
grown_order (suc n) edges weights reached = goes_on (λ k. k ∷ grown_order n edges weights (new_end reached (edge_at edges k) ∷ reached)) (best_of weights reached 0 edges)
