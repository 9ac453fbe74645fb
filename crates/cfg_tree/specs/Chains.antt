-- The edges at each node as chains: a place is 0 at the end of a chain, else one more than an edge's number.
use Rattle.std.specs.Prelude.{◌≡◌, ℕ, zero, suc, ◌+◌, ◌<◌, ◌⊎◌, List, [], length, Some, slice_get, slice_index, drop}
use Rattle.ir_tree.specs.declared.edge.Edge.{Edge}
use Rattle.cfg_tree.specs.Incident.{end_of, numbers_at}
use Rattle.cfg_tree.specs.declared.chains.End.{End}

abbrev pub EndsAreBelow : End → List Edge → ℕ → Type 0
EndsAreBelow end edges n = (k : ℕ) (e : Edge) → slice_get edges k ≡ Some e → end_of end e < n

-- the edges at node v from a place on
abbrev pub from_place : End → List Edge → ℕ → ℕ → List ℕ
from_place end edges v zero = []
from_place end edges v (suc k) = numbers_at end k (drop k edges) v

-- an edge at node v stands there, or it is the end
abbrev pub IsPlace : End → List Edge → ℕ → ℕ → Type 0
IsPlace end edges v zero = Unit {0}
IsPlace end edges v (suc k) = (e : Edge) × (slice_get edges k ≡ Some e) × (end_of end e ≡ v)

-- the place of the first edge at node v that has number j or more
pub record Leads (end : End) (edges : List Edge) (v j place : ℕ) : Type 0 where
  pub rest : numbers_at end j (drop j edges) v ≡ from_place end edges v place
  pub is_place : IsPlace end edges v place
  pub later : (place ≡ 0) ⊎ (j < place)

pub record AreChains (end : End) (edges : List Edge) (nodes : ℕ) (first next : List ℕ) : Type 0 where
  pub nodes_have : length first ≡ nodes
  pub edges_have : length next ≡ length edges
  pub firsts : (v : ℕ) → v < nodes → Leads end edges v 0 (slice_index first v)
  pub nexts : (k : ℕ) (e : Edge) → slice_get edges k ≡ Some e → Leads end edges (end_of end e) (k + 1) (slice_index next k)
