-- What holds of the edge graph of a function, and what its edges stand for.
use Rattle.std.specs.Prelude.{◌≡◌, ℕ, zero, suc, ◌+◌, ◌<◌, ◌≤◌, Bool, if◌then◌else◌, ◌⊎◌, List, [], ◌∷◌, length, max, Option, None, Some, slice_get}
use Rattle.ir_tree.specs.Edges.{block_place, edges_by, entry_edge, marked_from, numbers, rows}
use Rattle.ir_tree.specs.Graphs.{FlowGraph, block_of, ways_out, is_select, is_site, nodes, places_of}
use Rattle.ir_tree.specs.Reach.{AreMarks, IsReachable, reached}
use Rattle.ir_tree.specs.Successors.{successors}
use Rattle.ir_tree.specs.declared.edge.Edge.{Edge}
use Rattle.ir_tree.specs.declared.types.Block.{Block}
use Rattle.ir_tree.specs.declared.types.Function.{Function}

-- the ends of an edge are nodes, and it leaves the block of its first end
pub record IsEdge (g : FlowGraph) (e : Edge) : Type 0 where
  pub leaves : e.from < nodes g
  pub enters : e.to < nodes g
  pub owner : block_of g e.from ≡ e.block

-- edges, by their numbers, that lead one after the other from node a to node b
abbrev pub Follows : List Edge → List ℕ → ℕ → ℕ → Type 0
Follows edges [] a b = a ≡ b
Follows edges (k ∷ ks) a b = (e : Edge) × (slice_get edges k ≡ Some e) × (e.from ≡ a) × Follows edges ks e.to b

-- a block and a position have one edge
abbrev pub AreApart : List Edge → Type 0
AreApart edges = (j k : ℕ) (d e : Edge) → slice_get edges j ≡ Some d → slice_get edges k ≡ Some e → d.block ≡ e.block → d.position ≡ e.position → j ≡ k

-- What holds of the graph of any function: each node has an edge out, so there are as many edges as nodes; a block is the
-- block of one node; edges lead from node 0 to each node; and edge 0 leads from node 0 to node 1, the first block's
pub record IsFlowGraph (g : FlowGraph) : Type 0 where
  pub enough : nodes g ≤ length g.edges
  pub few : length g.edges < 4294967296
  pub sound : (k : ℕ) (e : Edge) → slice_get g.edges k ≡ Some e → IsEdge g e
  pub apart : AreApart g.edges
  pub one_node : (n k b : ℕ) → block_of g n ≡ Some b → block_of g k ≡ Some b → n ≡ k
  pub reached : (n : ℕ) → n < nodes g → (ks : List ℕ) × Follows g.edges ks 0 n
  pub first : slice_get g.edges 0 ≡ Some entry_edge
  pub entry : slice_get g.blocks 0 ≡ Some 0
  pub few_sites : length g.sites < 4294967296
  pub few_selects : length g.selects < 4294967296

-- the graph of a function: its nodes are the reachable blocks in text order, and its edges come block by block
pub record IsGraphOf (f : Function) (g : FlowGraph) : Type 0 where
  pub marks : List Bool
  pub marked : AreMarks (rows f.blocks) marks
  pub blocks : g.blocks ≡ marked_from 0 marks
  pub edges : g.edges ≡ edges_by (numbers 1 marks) (rows f.blocks) g.blocks
  pub sites : g.sites ≡ places_of is_site f.blocks g.blocks
  pub selects : g.selects ≡ places_of is_select f.blocks g.blocks

-- ---- what an edge stands for

abbrev pub successors_of : List Block → ℕ → List (List ℕ)
successors_of [] b = []
successors_of (block ∷ blocks) zero = successors block.term
successors_of (block ∷ blocks) (suc b) = successors_of blocks b

-- the edge leads to the block that the successor at its position names
pub record IsBranch (f : Function) (g : FlowGraph) (b : ℕ) (e : Edge) : Type 0 where
  pub to : List ℕ
  pub successor : slice_get (successors_of f.blocks b) e.position ≡ Some to
  pub target : block_of g e.to ≡ block_place f.blocks to

-- the block has no successor, and the edge leads to node 0
pub record IsExit (f : Function) (b : ℕ) (e : Edge) : Type 0 where
  pub last : successors_of f.blocks b ≡ []
  pub outside : e.to ≡ 0
  pub position : e.position ≡ 0

-- an edge that leaves a block leaves a reachable one, for one of its successors or by its exit; the other edge is that into the entry
pub record LeavesBlock (f : Function) (g : FlowGraph) (b : ℕ) (e : Edge) : Type 0 where
  pub reachable : IsReachable (rows f.blocks) b
  pub within : b < length f.blocks
  pub leads : IsBranch f g b e ⊎ IsExit f b e

abbrev pub Stands : Function → FlowGraph → Edge → Option ℕ → Type 0
Stands f g e None = e ≡ entry_edge
Stands f g e (Some b) = LeavesBlock f g b e

abbrev pub EdgesStand : Function → FlowGraph → Type 0
EdgesStand f g = (k : ℕ) (e : Edge) → slice_get g.edges k ≡ Some e → Stands f g e e.block

-- each successor of a reachable block has an edge, and so has the exit of one without successors
abbrev pub EachHasEdge : Function → FlowGraph → Type 0
EachHasEdge f g = (b p : ℕ) → IsReachable (rows f.blocks) b → p < max 1 (length (successors_of f.blocks b)) → (k : ℕ) × (e : Edge) × (slice_get g.edges k ≡ Some e) × (e.block ≡ Some b) × (e.position ≡ p)

-- a reachable block, which is the first of its label
pub record IsNamed (f : Function) (b : ℕ) : Type 0 where
  pub block : Block
  pub at : slice_get f.blocks b ≡ Some block
  pub reachable : IsReachable (rows f.blocks) b
  pub named : block_place f.blocks block.label ≡ Some b

-- each node but node 0 is a reachable block, which is the first of its label
abbrev pub NodesStand : Function → FlowGraph → Type 0
NodesStand f g = (n b : ℕ) → block_of g n ≡ Some b → IsNamed f b

-- the successors of a reachable block are labels of reachable blocks
abbrev pub SuccessorsAreReached : Function → Type 0
SuccessorsAreReached f = (b p : ℕ) (to : List ℕ) → IsReachable (rows f.blocks) b → slice_get (successors_of f.blocks b) p ≡ Some to → (t : ℕ) × (block_place f.blocks to ≡ Some t) × IsReachable (rows f.blocks) t

-- how many edges leave the marked ones of the blocks before block b
abbrev pub edges_before : List Bool → List Block → ℕ → ℕ
edges_before [] blocks b = 0
edges_before (m ∷ ms) [] b = 0
edges_before (m ∷ ms) (block ∷ blocks) zero = 0
edges_before (m ∷ ms) (block ∷ blocks) (suc b) = (if m then ways_out block else 0) + edges_before ms blocks b

-- the number of the first edge out of a block: edge 0 enters the function, and the edges of reachable blocks follow
abbrev pub first_edge : Function → ℕ → ℕ
first_edge f b = 1 + edges_before (reached (rows f.blocks)) f.blocks b

-- the edge of a reachable block and a position has the number that the block's first edge plus the position gives
abbrev pub AreNumbered : Function → FlowGraph → Type 0
AreNumbered f g = (b p : ℕ) → IsReachable (rows f.blocks) b → p < max 1 (length (successors_of f.blocks b)) → (e : Edge) × (slice_get g.edges (first_edge f b + p) ≡ Some e) × (e.block ≡ Some b) × (e.position ≡ p)
