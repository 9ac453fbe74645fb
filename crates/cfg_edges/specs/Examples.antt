-- Worked graphs, by hand.
use Rattle.std.specs.Prelude.{◌≡◌, ℕ, List, [], ◌∷◌, None, Some, refl, codes}
use Rattle.ir_tree.specs.declared.types.Block.{Block}
use Rattle.ir_tree.specs.declared.types.Function.{Function}
use Rattle.ir_tree.specs.declared.types.Instr.{Instr}
use Rattle.ir_tree.specs.declared.types.Instr.TheVariants.{Call, Select}
use Rattle.ir_tree.specs.declared.types.Operand.TheVariants.{Int, Local}
use Rattle.ir_tree.specs.declared.types.Ret.TheVariants.{Void}
use Rattle.ir_tree.specs.declared.types.Term.{Term}
use Rattle.ir_tree.specs.declared.types.Term.TheVariants.{Br, CondBr, Switch, Ret, Unreachable}
use Rattle.ir_tree.specs.declared.types.Ty.TheVariants.{I64}
use Rattle.ir_tree.specs.Blocks.{block_with}
use Rattle.ir_tree.specs.Edges.{edges_by, entry_edge, marked_from, numbers, rows}
use Rattle.ir_tree.specs.Graphs.{flow_graph, graph_of}
use Rattle.ir_tree.specs.Reach.{IsReachable, reached}
use Rattle.ir_tree.specs.declared.edge.Edge.{Edge}

abbrev pub block : List ℕ → Term → Block
block label term = block_with label [] term

abbrev pub leaving : ℕ → ℕ → ℕ → ℕ → Edge
leaving b position from to = record { from = from; to = to; block = Some b; position = position }

abbrev pub edges_of_blocks : List Block → List Edge
edges_of_blocks blocks = edges_by (numbers 1 (reached (rows blocks))) (rows blocks) (marked_from 0 (reached (rows blocks)))

-- ---- a loop

unfoldable pub entry_block : Block
entry_block = block (codes "entry") (Br (codes "head"))

unfoldable pub head_block : Block
head_block = block (codes "head") (CondBr (Local (codes "c")) (codes "body") (codes "done") None)

unfoldable pub body_block : Block
body_block = block (codes "body") (Br (codes "head"))

unfoldable pub done_block : Block
done_block = block (codes "done") (Ret None)

abbrev pub looping : List Block
looping = entry_block ∷ head_block ∷ body_block ∷ done_block ∷ []

pub looping_edges : edges_of_blocks looping ≡ entry_edge ∷ leaving 0 0 1 2 ∷ leaving 1 0 2 3 ∷ leaving 1 1 2 4 ∷ leaving 2 0 3 2 ∷ leaving 3 0 4 0 ∷ []
unfolding entry_block head_block body_block done_block reached
looping_edges = refl

-- the last block is reachable: from the entry, then by the second successor of `head`
pub looping_reaches : IsReachable (rows looping) 3
unfolding entry_block head_block body_block done_block
looping_reaches = (0 ∷ 1 ∷ [], (1, refl, (3, refl, refl)))

-- ---- a loop that branches back by both successors, and a block that nothing leads to

unfoldable pub doubled : List Block
doubled =
    block (codes "entry") (Br (codes "loop"))
    ∷ block (codes "lost") (Br (codes "out"))
    ∷ block (codes "loop") (CondBr (Local (codes "c")) (codes "loop") (codes "loop") None)
    ∷ block (codes "out") Unreachable
    ∷ []

-- blocks 0 and 2 are nodes 1 and 2; two edges run from node 2 to itself
pub doubled_edges : edges_of_blocks doubled ≡ entry_edge ∷ leaving 0 0 1 2 ∷ leaving 2 0 2 2 ∷ leaving 2 1 2 2 ∷ []
unfolding doubled reached
doubled_edges = refl

-- ---- a switch: its default first, then its cases

unfoldable pub switching : List Block
switching =
    block (codes "entry") (Switch I64 (Local (codes "n")) (codes "other") ((7, codes "seven") ∷ (8, codes "other") ∷ []) None)
    ∷ block (codes "seven") (Ret None)
    ∷ block (codes "other") Unreachable
    ∷ []

pub switching_edges : edges_of_blocks switching ≡ entry_edge ∷ leaving 0 0 1 3 ∷ leaving 0 1 1 2 ∷ leaving 0 2 1 3 ∷ leaving 1 0 2 0 ∷ leaving 2 0 3 0 ∷ []
unfolding switching reached
switching_edges = refl

-- ---- selects and calls through a local, in a reachable block and in one that nothing leads to

unfoldable pub choosing : Instr
choosing = Select (codes "x") (Int 1) I64 (Int 4) (Int 9) None

unfoldable pub calling : Instr
calling = Call None Void (Local (codes "p")) [] None

-- the reachable block has a select, the other a call and a select
unfoldable pub selecting : List Block
selecting = block_with (codes "entry") (choosing ∷ []) (Ret None) ∷ block_with (codes "lost") (calling ∷ choosing ∷ []) (Br (codes "lost")) ∷ []

abbrev pub function : List Block → Function
function blocks = record { name = codes "s"; ret = Void; params = []; blocks = blocks; prof = None }

pub selecting_graph : graph_of (function selecting) ≡ flow_graph (0 ∷ []) (entry_edge ∷ leaving 0 0 1 0 ∷ []) [] ((0, 0) ∷ [])
unfolding selecting choosing calling reached graph_of
selecting_graph = refl

-- a call behind a select
unfoldable pub through : List Block
through = block_with (codes "entry") (choosing ∷ calling ∷ []) Unreachable ∷ []

pub through_graph : graph_of (function through) ≡ flow_graph (0 ∷ []) (entry_edge ∷ leaving 0 0 1 0 ∷ []) ((0, 1) ∷ []) ((0, 0) ∷ [])
unfolding through choosing calling reached graph_of
through_graph = refl
