-- The edge graph of a function as a value.
use Rattle.std.specs.Prelude.{◌≡◌, ℕ, zero, suc, ◌+◌, ◌<◌, Bool, true, false, if◌then◌else◌, List, [], ◌∷◌, flat_map, length, sum_by, Option, None, Some, is_some, slice_get}
use Rattle.std.specs.List.{count_by, list_all}
use Rattle.ir_tree.specs.Edges.{block_place, edges_by, marked_from, numbers, rows}
use Rattle.ir_tree.specs.Reach.{reached}
use Rattle.ir_tree.specs.Successors.{successors}
pub use Rattle.ir_tree.specs.Successors.{ways_out}
use Rattle.ir_tree.specs.declared.edge.Edge.{Edge}
use Rattle.ir_tree.specs.declared.types.Block.{Block}
use Rattle.ir_tree.specs.declared.types.Function.{Function}
use Rattle.ir_tree.specs.declared.types.Instr.{Instr}
use Rattle.ir_tree.specs.declared.types.Instr.TheVariants.{Binary, Compare, Convert, Freeze, Select, Phi, Alloca, Load, Store, Gep, Call, Count}
use Rattle.ir_tree.specs.declared.types.Operand.{Operand}
use Rattle.ir_tree.specs.declared.types.Operand.TheVariants.{Int, Null, Local, Global}

-- ---- sites and selects

abbrev pub is_local : Operand → Bool
is_local (Int n) = false
is_local Null = false
is_local (Local x) = true
is_local (Global x) = false

-- a call whose callee is a parameter or result, so that a run decides which function it calls
abbrev pub is_site : Instr → Bool
is_site (Binary into op flags ty left right) = false
is_site (Compare into pred ty left right) = false
is_site (Convert into op flags from value to) = false
is_site (Freeze into ty value) = false
is_site (Select into c ty first second prof) = false
is_site (Phi into ty entries) = false
is_site (Alloca into mem) = false
is_site (Load into ty address) = false
is_site (Store ty value address) = false
is_site (Gep into inbounds mem address indices) = false
is_site (Call into ret callee values prof) = is_local callee
is_site (Count symbol size index step) = false

abbrev pub is_select : Instr → Bool
is_select (Binary into op flags ty left right) = false
is_select (Compare into pred ty left right) = false
is_select (Convert into op flags from value to) = false
is_select (Freeze into ty value) = false
is_select (Select into c ty first second prof) = true
is_select (Phi into ty entries) = false
is_select (Alloca into mem) = false
is_select (Load into ty address) = false
is_select (Store ty value address) = false
is_select (Gep into inbounds mem address indices) = false
is_select (Call into ret callee values prof) = false
is_select (Count symbol size index step) = false

-- the places in block b of the instructions that pass a test, the first instruction being at item i
abbrev pub places_from : (Instr → Bool) → ℕ → ℕ → List Instr → List (ℕ × ℕ)
places_from test b i [] = []
places_from test b i (x ∷ xs) = if test x then (b, i) ∷ places_from test b (i + 1) xs else places_from test b (i + 1) xs

abbrev pub places_in : (Instr → Bool) → ℕ → Option Block → List (ℕ × ℕ)
places_in test b None = []
places_in test b (Some block) = places_from test b 0 block.instrs

-- the places of such instructions in these blocks, each as a block and an item of it
abbrev pub places_of : (Instr → Bool) → List Block → List ℕ → List (ℕ × ℕ)
places_of test all blocks = flat_map (λ b. places_in test b (slice_get all b)) blocks

-- ---- graphs

-- The block of each node but node 0, by its number in text order; the edges by number; and the calls through a local and
-- the selects of these blocks in text order, each by its block and its item in it
pub record FlowGraph : Type 0 where
  pub blocks : List ℕ
  pub edges : List Edge
  pub sites : List (ℕ × ℕ)
  pub selects : List (ℕ × ℕ)

abbrev pub flow_graph : List ℕ → List Edge → List (ℕ × ℕ) → List (ℕ × ℕ) → FlowGraph
flow_graph blocks edges sites selects = record { blocks = blocks; edges = edges; sites = sites; selects = selects }

-- the graph of blocks of which the marked ones are the nodes
abbrev pub graph_with : List Block → List Bool → FlowGraph
graph_with blocks marks =
    flow_graph (marked_from 0 marks) (edges_by (numbers 1 marks) (rows blocks) (marked_from 0 marks)) (places_of is_site blocks (marked_from 0 marks)) (places_of is_select blocks (marked_from 0 marks))

-- The graph of a function: its nodes are node 0, outside the function, and its reachable blocks in text order
unfoldable pub graph_of : Function → FlowGraph
graph_of f = graph_with f.blocks (reached (rows f.blocks))

abbrev pub nodes : FlowGraph → ℕ
nodes g = length g.blocks + 1

-- none at node 0, and past the last node
abbrev pub block_of : FlowGraph → ℕ → Option ℕ
block_of g zero = None
block_of g (suc n) = slice_get g.blocks n

-- ---- the functions that have a graph

-- each label that the block's terminator names is a block's
abbrev pub has_targets : List Block → Block → Bool
has_targets blocks block = list_all (λ to. is_some (block_place blocks to)) (successors block.term)

-- how many instructions of these blocks pass a test
abbrev pub count_in : (Instr → Bool) → List Block → ℕ
count_in test blocks = sum_by (λ b. count_by test b.instrs) blocks

-- A function with blocks, whose terminators name blocks, and with so few edges, calls through a local and selects that
-- their numbers fit 32 bits
pub record HasGraph (f : Function) : Type 0 where
  pub entry : 0 < length f.blocks
  pub targets : list_all (has_targets f.blocks) f.blocks ≡ true
  pub few : 1 + sum_by ways_out f.blocks < 4294967296
  pub few_sites : count_in is_site f.blocks < 4294967296
  pub few_selects : count_in is_select f.blocks < 4294967296
