-- What a graph tells of its edges as a list.
use Rattle.std.proofs.Common.{◌≡◌, ◌<◌, ℕ, List, Some, slice_get, sym, subst}
use Rattle.ir_tree.specs.declared.edge.Edge.{Edge}
use Rattle.ir_tree.specs.Graphs.{FlowGraph, nodes}
use Rattle.cfg_edges.specs.Graph.{IsFlowGraph, IsEdge}
use Rattle.spanning_order.specs.Spanning.{EndsAreNodes}

pub ends_of_graph : (g : FlowGraph) (edges : List Edge) (n : ℕ) → edges ≡ g.edges → n ≡ nodes g → IsFlowGraph g → EndsAreNodes edges n
ends_of_graph g edges n same count whole k e h =
    let w : IsEdge g e = whole.sound k e (subst (λ (es : List Edge). slice_get es k ≡ Some e) same h) in
    (subst (λ (m : ℕ). e.from < m) (sym count) w.leaves, subst (λ (m : ℕ). e.to < m) (sym count) w.enters)
