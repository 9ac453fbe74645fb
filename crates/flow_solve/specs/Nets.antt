-- What the edges with known values bring to each node, kept as a list of one number a node.
use Rattle.std.specs.Prelude.{◌≡◌, ℕ, ◌==◌, ◌≤◌, if◌then◌else◌, List, [], ◌∷◌, ℤ, pos, ◌+ℤ◌, ◌-ℤ◌, ◌≤ℤ◌, neg_ℤ, length, slice_index, slice_index_or, slice_set, sum}
use Rattle.ir_tree.specs.declared.edge.Edge.{Edge}
use Rattle.flow_solve.specs.Ends.{edge_at, other_end}

abbrev pub at : List ℤ → ℕ → ℤ
at nets v = slice_index_or nets v (pos 0)

-- a count along an edge leaves its first end and comes to its second
abbrev pub paid : Edge → ℕ → List ℤ → List ℤ
paid e count nets = let left = slice_set nets e.from (at nets e.from -ℤ pos count) in slice_set left e.to (at left e.to +ℤ pos count)

-- nothing along an edge that joins a node at an end, since that edge is in the order
abbrev pub paid_outside : Edge → ℕ → ℕ → List ℤ → List ℤ
paid_outside e end count nets = if end == 0 then paid e count nets else nets

-- counters along the edges outside the order
abbrev pub pay_all : List Edge → List ℕ → List ℕ → List ℕ → List ℤ → List ℤ
pay_all edges ends [] counters nets = nets
pay_all edges ends (k ∷ ks) [] nets = nets
pay_all edges ends (k ∷ ks) (c ∷ cs) nets = pay_all edges ends ks cs (paid_outside (edge_at edges k) (slice_index ends k) c nets)

-- the net of the end that an edge joins comes to its other end
abbrev pub merged : Edge → ℕ → List ℤ → List ℤ
merged e end nets = slice_set nets (other_end e end) (at nets (other_end e end) +ℤ at nets end)

-- along an order, its last edge first
abbrev pub merge_all : List Edge → List ℕ → List ℕ → List ℤ → List ℤ
merge_all edges ends [] nets = nets
merge_all edges ends (k ∷ ks) nets = merged (edge_at edges k) (slice_index ends k) (merge_all edges ends ks nets)

-- the value that an edge needs for the node at this end to be in balance
abbrev pub needed : Edge → ℕ → List ℤ → ℤ
needed e end nets = if e.to == end then neg_ℤ (at nets end) else at nets end

-- the number lies between -bound and bound
abbrev pub IsBounded : ℕ → ℤ → Type 0
IsBounded bound z = (neg_ℤ (pos bound) ≤ℤ z) × (z ≤ℤ pos bound)

-- the nets' absolute values add up to no more than a limit
pub record AreWithin (limit : ℕ) (nets : List ℤ) : Type 0 where
  pub bounds : List ℕ
  pub size : length bounds ≡ length nets
  pub total : sum bounds ≤ limit
  pub each : (v : ℕ) → IsBounded (slice_index bounds v) (at nets v)
