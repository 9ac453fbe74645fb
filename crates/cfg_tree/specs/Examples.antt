-- Worked trees, by hand: the weights, the order in which the edges join, and the edges that keep a counter.
use Rattle.std.specs.Prelude.{◌≡◌, ℕ, true, false, List, [], ◌∷◌, refl}
use Rattle.ir_tree.specs.Edges.{entry_edge}
use Rattle.ir_tree.specs.Graphs.{FlowGraph, flow_graph}
use Rattle.cfg_edges.specs.Examples.{leaving}
use Rattle.cfg_tree.specs.Grown.{grown_order}
use Rattle.cfg_tree.specs.Tree.{tree_of}
use Rattle.cfg_tree.specs.Walk.{visits}
use Rattle.cfg_tree.specs.Weights.{static_weights}
use Rattle.spanning_order.specs.declared.tree.Tree.{Tree}

abbrev pub tree : List ℕ → List ℕ → Tree
tree order counted = record { order = order; counted = counted }

-- ---- a loop: the entry, a head that goes to the body or out, the body, and the block behind it

abbrev pub loop : FlowGraph
loop = flow_graph (0 ∷ 1 ∷ 2 ∷ 3 ∷ []) (entry_edge ∷ leaving 0 0 1 2 ∷ leaving 1 0 2 3 ∷ leaving 1 1 2 4 ∷ leaving 2 0 3 2 ∷ leaving 3 0 4 0 ∷ []) [] []

pub loop_weights : static_weights loop false ≡ 1 ∷ 2 ∷ 2 ∷ 2 ∷ 20 ∷ 1 ∷ []
unfolding visits
loop_weights = refl

pub loop_tree : tree_of loop false ≡ tree (0 ∷ 1 ∷ 4 ∷ 3 ∷ []) (2 ∷ 5 ∷ [])
unfolding visits grown_order
loop_tree = refl

pub loop_weights_entry_first : static_weights loop true ≡ 0 ∷ 2 ∷ 2 ∷ 2 ∷ 20 ∷ 1 ∷ []
unfolding visits
loop_weights_entry_first = refl

pub loop_tree_entry_first : tree_of loop true ≡ tree (5 ∷ 3 ∷ 4 ∷ 1 ∷ []) (0 ∷ 2 ∷ [])
unfolding visits grown_order
loop_tree_entry_first = refl

-- ---- one block

abbrev pub single : FlowGraph
single = flow_graph (0 ∷ []) (entry_edge ∷ leaving 0 0 1 0 ∷ []) [] []

pub single_tree : tree_of single false ≡ tree (0 ∷ []) (1 ∷ [])
unfolding visits grown_order
single_tree = refl

pub single_tree_entry_first : tree_of single true ≡ tree (1 ∷ []) (0 ∷ [])
unfolding visits grown_order
single_tree_entry_first = refl

-- ---- a branch whose two successors are one block: both edges are critical

abbrev pub parallel : FlowGraph
parallel = flow_graph (0 ∷ 1 ∷ []) (entry_edge ∷ leaving 0 0 1 2 ∷ leaving 0 1 1 2 ∷ leaving 1 0 2 0 ∷ []) [] []

pub parallel_weights : static_weights parallel false ≡ 1 ∷ 2000 ∷ 2000 ∷ 1 ∷ []
unfolding visits
parallel_weights = refl

pub parallel_tree : tree_of parallel false ≡ tree (0 ∷ 1 ∷ []) (2 ∷ 3 ∷ [])
unfolding visits grown_order
parallel_tree = refl

-- ---- a switch whose default and three cases are one block

abbrev pub switching : FlowGraph
switching = flow_graph (0 ∷ 1 ∷ []) (entry_edge ∷ leaving 0 0 1 2 ∷ leaving 0 1 1 2 ∷ leaving 0 2 1 2 ∷ leaving 0 3 1 2 ∷ leaving 1 0 2 0 ∷ []) [] []

pub switching_tree : tree_of switching false ≡ tree (0 ∷ 1 ∷ []) (2 ∷ 3 ∷ 4 ∷ 5 ∷ [])
unfolding visits grown_order
switching_tree = refl

-- ---- a diamond

abbrev pub diamond : FlowGraph
diamond = flow_graph (0 ∷ 1 ∷ 2 ∷ 3 ∷ []) (entry_edge ∷ leaving 0 0 1 2 ∷ leaving 0 1 1 3 ∷ leaving 1 0 2 4 ∷ leaving 2 0 3 4 ∷ leaving 3 0 4 0 ∷ []) [] []

pub diamond_tree : tree_of diamond false ≡ tree (0 ∷ 1 ∷ 2 ∷ 3 ∷ []) (4 ∷ 5 ∷ [])
unfolding visits grown_order
diamond_tree = refl

-- ---- a loop without an exit: the entry edge has a counter in the mode that counts it first, though the order has it

abbrev pub spinning : FlowGraph
spinning = flow_graph (0 ∷ 1 ∷ []) (entry_edge ∷ leaving 0 0 1 2 ∷ leaving 1 0 2 2 ∷ []) [] []

pub spinning_weights : static_weights spinning true ≡ 0 ∷ 2 ∷ 20 ∷ []
unfolding visits
spinning_weights = refl

pub spinning_tree : tree_of spinning true ≡ tree (0 ∷ 1 ∷ []) (0 ∷ 2 ∷ [])
unfolding visits grown_order
spinning_tree = refl

-- ---- a loop of one block with a way out: the edge back is critical

abbrev pub turning : FlowGraph
turning = flow_graph (0 ∷ 1 ∷ 2 ∷ []) (entry_edge ∷ leaving 0 0 1 2 ∷ leaving 1 0 2 2 ∷ leaving 1 1 2 3 ∷ leaving 2 0 3 0 ∷ []) [] []

pub turning_weights : static_weights turning false ≡ 1 ∷ 2 ∷ 20000 ∷ 2 ∷ 1 ∷ []
unfolding visits
turning_weights = refl
