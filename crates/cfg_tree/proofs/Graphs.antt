-- The ends of the edges of a graph are nodes.
use Rattle.std.proofs.Common.{◌≡◌, ℕ, ◌<◌, List, Some, slice_get, sym, subst}
use Rattle.ir_tree.specs.Graphs.{FlowGraph, nodes}
use Rattle.ir_tree.specs.declared.edge.Edge.{Edge}
use Rattle.cfg_edges.specs.Graph.{IsFlowGraph}
use Rattle.cfg_tree.specs.Chains.{EndsAreBelow}
use Rattle.cfg_tree.specs.declared.chains.End.TheVariants.{Head, Tail}

module _ (g : FlowGraph) (edges : List Edge) (n : ℕ) (whole : IsFlowGraph g) (are : edges ≡ g.edges) (count : n ≡ nodes g) where
  pub tails_below : EndsAreBelow Tail edges n
  tails_below k e at = subst (λ (m : ℕ). e.from < m) (sym count) (whole.sound k e (subst (λ (es : List Edge). slice_get es k ≡ Some e) are at)).leaves

  pub heads_below : EndsAreBelow Head edges n
  heads_below k e at = subst (λ (m : ℕ). e.to < m) (sym count) (whole.sound k e (subst (λ (es : List Edge). slice_get es k ≡ Some e) are at)).enters
