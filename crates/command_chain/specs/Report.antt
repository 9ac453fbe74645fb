-- The edges report: for each defined function a line, and a line for each edge of its graph with its count.
use Rattle.std.specs.Prelude.{ℕ, ◌+◌, cond, List, [], ◌∷◌, ◌++◌, Option, Some, None, codes, decimal, slice_get}
use Rattle.ir_tree.specs.declared.types.Block.{Block}
use Rattle.ir_tree.specs.declared.types.Function.{Function}
use Rattle.ir_tree.specs.Functions.{is_declared}
use Rattle.ir_tree.specs.Graphs.{FlowGraph, block_of, graph_of}
use Rattle.ir_tree.specs.Spelling.{global_text, local_text}
use Rattle.ir_tree.specs.declared.edge.Edge.{Edge}

-- the count of an edge of a function, by the function's number
abbrev pub Count : Type 0
Count = ℕ → Edge → ℕ

abbrev pub label_text : Option Block → List ℕ
label_text None = []
label_text (Some block) = codes "%" ++ local_text block.label

-- a node by the label of its block, and node 0 as `-`
abbrev pub node_text : List Block → Option ℕ → List ℕ
node_text blocks None = codes "-"
node_text blocks (Some b) = label_text (slice_get blocks b)

-- the number of an edge, the nodes that it joins, and its count
unfoldable pub edge_line : List Block → FlowGraph → ℕ → Edge → ℕ → List ℕ
edge_line blocks g n e count =
    codes "edge " ++ decimal n ++ codes " " ++ node_text blocks (block_of g e.from) ++ codes " " ++ node_text blocks (block_of g e.to) ++ codes " " ++ decimal count ++ codes "\n"

-- the lines of edges, numbered from n
abbrev pub edge_lines : (Edge → ℕ) → List Block → FlowGraph → ℕ → List Edge → List ℕ
edge_lines count blocks g n [] = []
edge_lines count blocks g n (e ∷ es) = edge_line blocks g n e (count e) ++ edge_lines count blocks g (n + 1) es

unfoldable pub function_lines : (Edge → ℕ) → Function → FlowGraph → List ℕ
function_lines count f g = codes "function @" ++ global_text f.name ++ codes " solved\n" ++ edge_lines count f.blocks g 0 g.edges

-- the lines of a function: a declared one has none, a defined one those of its graph
abbrev pub function_report : (Edge → ℕ) → Function → List ℕ
function_report count f = cond (is_declared f) [] (function_lines count f (graph_of f))

-- the report of functions, numbered from k
abbrev pub report : Count → ℕ → List Function → List ℕ
report count k [] = []
report count k (f ∷ fs) = function_report (count k) f ++ report count (k + 1) fs
