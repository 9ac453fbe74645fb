-- The tree that is made is the one of the graph.
use Rattle.std.proofs.Common.{◌≡◌, ℕ, Bool, List, [], ◌∷◌, length, ap, subst, ◌∙◌, arith, refl}
use Rattle.cfg_edges.specs.Graph.{IsFlowGraph}
use Rattle.ir_tree.specs.Graphs.{FlowGraph, nodes}
use Rattle.ir_tree.specs.declared.edge.Edge.{Edge}
use Rattle.spanning_order.specs.declared.tree.Tree.{Tree}
use Rattle.cfg_tree.specs.Counted.{counted_of}
use Rattle.cfg_tree.specs.Grown.{IsGrown}
use Rattle.cfg_tree.specs.Tree.{IsTreeOf, order_of, tree_of}
use Rattle.cfg_tree.specs.Weights.{static_weights}
use Rattle.cfg_tree.proofs.Graphs.{heads_below, tails_below}
use Rattle.cfg_tree.proofs.Counting.{are_counted}
use Rattle.cfg_tree.proofs.Spanned.{spans}
use Rattle.cfg_tree.proofs.Unique.{one_order, order_grows}

module _ (g : FlowGraph) (entry_first : Bool) (whole : IsFlowGraph g) where
  pub order_is : (order : List ℕ) → IsGrown g.edges (static_weights g entry_first) (0 ∷ []) order → order ≡ order_of g entry_first
  order_is order grown = one_order g.edges (static_weights g entry_first) (nodes g) order (omega arith) (tails_below g g.edges (nodes g) whole refl refl) (heads_below g g.edges (nodes g) whole refl refl) grown

  -- the same as the code has it
  pub tree_is : (edges : List Edge) (weights table items slice order counted found : List ℕ) → edges ≡ g.edges → weights ≡ table → table ≡ static_weights g entry_first → IsGrown edges weights (0 ∷ []) items
      → slice ≡ items → order ≡ items → counted ≡ found → found ≡ counted_of (length edges) slice entry_first → ◌≡◌ {A = Tree} (record { order = order; counted = counted }) (tree_of g entry_first)
  tree_is edges weights table items slice order counted found are same table_is grown slice_is order_items from found_is =
      let all : IsGrown g.edges (static_weights g entry_first) (0 ∷ []) items = subst (λ (es : List Edge). IsGrown es (static_weights g entry_first) (0 ∷ []) items) are (subst (λ (ws : List ℕ). IsGrown edges ws (0 ∷ []) items) (same ∙ table_is) grown) in
      let o : order ≡ order_of g entry_first = order_items ∙ order_is items all in
      let s : slice ≡ order_of g entry_first = slice_is ∙ order_is items all in
      let c : counted ≡ counted_of (length g.edges) (order_of g entry_first) entry_first = from ∙ found_is ∙ ap (λ (es : List Edge). counted_of (length es) slice entry_first) are ∙ ap (λ (xs : List ℕ). counted_of (length g.edges) xs entry_first) s in
      ap (λ (xs : List ℕ). tree xs counted) o ∙ ap (λ (xs : List ℕ). tree (order_of g entry_first) xs) c
    where
      tree : List ℕ → List ℕ → Tree
      tree o c = record { order = o; counted = c }

pub is_tree : (g : FlowGraph) (entry_first : Bool) → IsFlowGraph g → IsTreeOf g entry_first (tree_of g entry_first)
is_tree g entry_first whole =
    let grown : IsGrown g.edges (static_weights g entry_first) (0 ∷ []) (order_of g entry_first) = order_grows g.edges (static_weights g entry_first) (nodes g) (omega arith) (tails_below g g.edges (nodes g) whole refl refl) (heads_below g g.edges (nodes g) whole refl refl) in
    record {
      grown = grown;
      spans = spans g (static_weights g entry_first) (order_of g entry_first) whole grown;
      beside = are_counted (order_of g entry_first) entry_first (length g.edges);
    }
