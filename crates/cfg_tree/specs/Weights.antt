-- The static weights of edges.
use Rattle.std.specs.Prelude.{ℕ, ◌*◌, ◌==◌, Bool, ◌&&◌, if◌then◌else◌, List, length, map, nat_lt}
use Rattle.std.specs.List.{range_with_len}
use Rattle.ir_tree.specs.Graphs.{FlowGraph, nodes}
use Rattle.ir_tree.specs.Reach.{is_marked}
use Rattle.ir_tree.specs.declared.edge.Edge.{Edge}
use Rattle.spanning_order.specs.Spanning.{edge_at}
use Rattle.cfg_tree.specs.Incident.{degree}
use Rattle.cfg_tree.specs.Walk.{walked}
use Rattle.cfg_tree.specs.declared.chains.End.TheVariants.{Head, Tail}

-- one of several edges out of its first node, and one of several into its second
abbrev pub is_critical : List Edge → Edge → Bool
is_critical edges e = nat_lt 1 (degree Tail edges e.from) && nat_lt 1 (degree Head edges e.to)

-- the edge into the entry, an exit, an edge that leads back, and any other
abbrev pub base_weight : Bool → ℕ → ℕ → Bool → ℕ
base_weight entry_first k to back = if k == 0 then (if entry_first then 0 else 1) else (if to == 0 then 1 else (if back then 20 else 2))

-- the weight of edge k, where these edges lead back
abbrev pub weight : Bool → List Edge → List Bool → ℕ → ℕ
weight entry_first edges back k = if is_critical edges (edge_at edges k) then 1000 * base_weight entry_first k (edge_at edges k).to (is_marked back k) else base_weight entry_first k (edge_at edges k).to (is_marked back k)

-- the weights of the edges of so many nodes
abbrev pub weights_of : ℕ → List Edge → Bool → List ℕ
weights_of nodes edges entry_first = map (weight entry_first edges (walked nodes edges).back) (range_with_len 0 (length edges))

abbrev pub static_weights : FlowGraph → Bool → List ℕ
static_weights g entry_first = weights_of (nodes g) g.edges entry_first
