-- Spanning orders: edges that, one after the other, join every node to node 0.
use Rattle.std.specs.Prelude.{◌≡◌, ℕ, ◌<◌, ◌⊎◌, List, [], ◌∷◌, None, Some, slice_get, slice_index_or}
use Rattle.ir_tree.specs.declared.edge.Edge.{Edge}
use Rattle.spanning_order.specs.Lists.{Among}

-- the edge with a number; past the last one, an edge that brings nothing to any node
abbrev pub edge_at : List Edge → ℕ → Edge
edge_at edges k = slice_index_or edges k (record { from = 0; to = 0; block = None; position = 0 })

-- the edge leads from one node to the other, in either direction
abbrev pub Links : Edge → ℕ → ℕ → Type 0
Links e a b = ((e.from ≡ a) × (e.to ≡ b)) ⊎ ((e.from ≡ b) × (e.to ≡ a))

-- the edge with number k links a reached node to a new one
pub record Joins (edges : List Edge) (reached : List ℕ) (k new : ℕ) : Type 0 where
  pub edge : Edge
  pub stands : slice_get edges k ≡ Some edge
  pub old : ℕ
  pub links : Links edge old new
  pub is_reached : Among old reached
  pub is_new : ¬ Among new reached

-- edges that one after the other join a new node, until each of n nodes is reached
abbrev pub Grows : List Edge → ℕ → List ℕ → List ℕ → Type 0
Grows edges n reached [] = (v : ℕ) → v < n → Among v reached
Grows edges n reached (k ∷ ks) = (new : ℕ) × Joins edges reached k new × Grows edges n (new ∷ reached) ks

-- starting from node 0 alone
abbrev pub IsSpanningOrder : List Edge → ℕ → List ℕ → Type 0
IsSpanningOrder edges n order = Grows edges n (0 ∷ []) order

-- the ends of each edge are nodes
abbrev pub EndsAreNodes : List Edge → ℕ → Type 0
EndsAreNodes edges n = (k : ℕ) (e : Edge) → slice_get edges k ≡ Some e → (e.from < n) × (e.to < n)
