-- The tree of a graph.
use Rattle.std.specs.Prelude.{ℕ, Bool, List, [], ◌∷◌, length}
use Rattle.ir_tree.specs.Graphs.{FlowGraph, nodes}
use Rattle.spanning_order.specs.Counted.{AreCounted}
use Rattle.spanning_order.specs.Spanning.{IsSpanningOrder}
use Rattle.spanning_order.specs.declared.tree.Tree.{Tree}
use Rattle.cfg_tree.specs.Counted.{counted_of}
use Rattle.cfg_tree.specs.Grown.{IsGrown, grown_order}
use Rattle.cfg_tree.specs.Weights.{static_weights}

-- the spanning order of greatest static weight, from node 0 on
abbrev pub order_of : FlowGraph → Bool → List ℕ
order_of g entry_first = grown_order (nodes g) g.edges (static_weights g entry_first) (0 ∷ [])

-- that order, and the edges that keep a counter beside it
abbrev pub tree_of : FlowGraph → Bool → Tree
tree_of g entry_first = record { order = order_of g entry_first; counted = counted_of (length g.edges) (order_of g entry_first) entry_first }

-- what holds of the tree of a graph, in the mode that counts the entry first or not
pub record IsTreeOf (g : FlowGraph) (entry_first : Bool) (tree : Tree) : Type 0 where
  pub grown : IsGrown g.edges (static_weights g entry_first) (0 ∷ []) tree.order
  pub spans : IsSpanningOrder g.edges (nodes g) tree.order
  pub beside : AreCounted (length g.edges) tree.order tree.counted
