-- The blocks at the ends of edges, how many edges a block is an end of, and the counter that stands at this end of it.
use Rattle.std.specs.Prelude.{◌≡◌, ℕ, ◌<◌, Bool, ◌&&◌, cond, List, count_by, Option, None, Some, slice_get, slice_index}
use Rattle.gen_code.specs.declared.ends.End.{End}
use Rattle.gen_code.specs.declared.ends.End.TheVariants.{Tail, Head}
use Rattle.gen_plan.specs.Placing.{at_head, at_tail, counter_of, of_edges}
use Rattle.ir_model.specs.Log.{is_at}
use Rattle.ir_tree.specs.Graphs.{FlowGraph, block_of}
use Rattle.ir_tree.specs.Operands.{listed}
use Rattle.ir_tree.specs.declared.edge.Edge.{Edge}
use Rattle.spec_lists.specs.Each.{first_of}

-- none at the tail of the entry edge, and at the head of an exit
abbrev pub block_at : FlowGraph → End → Edge → Option ℕ
block_at g Tail e = e.block
block_at g Head e = block_of g e.to

-- the blocks at this end of edges are among the first n
abbrev pub AreWithin : FlowGraph → End → ℕ → Type 0
AreWithin g end n = (k : ℕ) (e : Edge) (b : ℕ) → slice_get g.edges k ≡ Some e → block_at g end e ≡ Some b → b < n

abbrev pub degree : FlowGraph → End → List Edge → ℕ → ℕ
degree g end edges b = count_by (λ e. is_at b (block_at g end e)) edges

abbrev pub AreDegrees : FlowGraph → End → List Edge → List ℕ → Type 0
AreDegrees g end edges degrees = (b : ℕ) → slice_index degrees b ≡ degree g end edges b

-- the counter of the edge stands at this end
abbrev pub stands_at : FlowGraph → End → Edge → Bool
stands_at g Tail e = at_tail g e
stands_at g Head e = at_head g e

abbrev pub counting_block : FlowGraph → End → Edge → Option ℕ
counting_block g end e = cond (stands_at g end e) (block_at g end e) None

-- the counter of a block at this end, of these edges
abbrev pub block_counter : FlowGraph → End → List ℕ → List Edge → ℕ → Option ℕ
block_counter g end counted edges b = first_of (of_edges edges (λ e. is_at b (block_at g end e) && stands_at g end e) (λ k. listed (counter_of counted k)))
