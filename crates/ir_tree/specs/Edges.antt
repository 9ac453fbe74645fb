-- The edges of a function's blocks: the successors of each block by number, the nodes, and the edges between these.
use Rattle.std.specs.Prelude.{ℕ, ◌+◌, Bool, cond, if◌then◌else◌, List, [], ◌∷◌, map, flat_map, None, Some, slice_index, sum_by, unwrap_or}
pub use Rattle.ir_tree.specs.Blocks.{labels, block_place}
use Rattle.ir_tree.specs.Functions.{is_declared}
use Rattle.ir_tree.specs.Reach.{row}
use Rattle.ir_tree.specs.Successors.{successors, ways_out}
use Rattle.ir_tree.specs.declared.edge.Edge.{Edge}
use Rattle.ir_tree.specs.declared.types.Block.{Block}
use Rattle.ir_tree.specs.declared.types.Function.{Function}

-- the edges of a function: the one by which it is entered, and those out of all its blocks; a declared one has none
abbrev pub edges_in : Function → ℕ
edges_in f = cond (is_declared f) 0 (1 + sum_by ways_out f.blocks)

-- ---- blocks by their numbers in text order

-- the successors of a block by their numbers; a label that no block has counts as the entry's
abbrev pub row_of : List Block → Block → List ℕ
row_of blocks block = map (λ to. unwrap_or (block_place blocks to) 0) (successors block.term)

-- the successors of each block
abbrev pub rows : List Block → List (List ℕ)
rows blocks = map (row_of blocks) blocks

-- ---- the reachable blocks as nodes, numbered from 1 in text order

-- the blocks that have a mark, counted from b
abbrev pub marked_from : ℕ → List Bool → List ℕ
marked_from b [] = []
marked_from b (m ∷ ms) = if m then b ∷ marked_from (b + 1) ms else marked_from (b + 1) ms

-- the number of each block's node, the next node being n; at a block without a mark it is that of the next node
abbrev pub numbers : ℕ → List Bool → List ℕ
numbers n [] = []
numbers n (m ∷ ms) = n ∷ numbers (if m then n + 1 else n) ms

-- ---- the edges out of blocks whose nodes have these numbers

-- the edge into the entry
abbrev pub entry_edge : Edge
entry_edge = record { from = 0; to = 1; block = None; position = 0 }

abbrev pub branch_edge : List ℕ → ℕ → ℕ → ℕ → Edge
branch_edge nodes b p t = record { from = slice_index nodes b; to = slice_index nodes t; block = Some b; position = p }

abbrev pub exit_edge : List ℕ → ℕ → Edge
exit_edge nodes b = record { from = slice_index nodes b; to = 0; block = Some b; position = 0 }

-- an edge for each successor, the first of these at position p
abbrev pub row_edges : List ℕ → ℕ → ℕ → List ℕ → List Edge
row_edges nodes b p [] = []
row_edges nodes b p (t ∷ ts) = branch_edge nodes b p t ∷ row_edges nodes b (p + 1) ts

-- the edges out of a block: one for each successor, and one to node 0 where there is none
abbrev pub block_edges : List ℕ → ℕ → List ℕ → List Edge
block_edges nodes b [] = exit_edge nodes b ∷ []
block_edges nodes b (t ∷ ts) = row_edges nodes b 0 (t ∷ ts)

abbrev pub edges_out_of : List ℕ → List (List ℕ) → List ℕ → List Edge
edges_out_of nodes rows blocks = flat_map (λ b. block_edges nodes b (row rows b)) blocks

-- the edge into the entry, then block by block the edges out of these blocks
abbrev pub edges_by : List ℕ → List (List ℕ) → List ℕ → List Edge
edges_by nodes rows blocks = entry_edge ∷ edges_out_of nodes rows blocks
