-- Where the counter of an edge stands: before the terminator of its tail where that has no other way out; else behind the phis of
-- its head where no other edge enters that; else in a new block on the edge.
use Rattle.std.specs.Prelude.{ℕ, ◌==◌, Bool, false, ◌&&◌, not, cond, List, [], count_by, position, Option, None, Some}
use Rattle.std.specs.Option.{option_map}
use Rattle.count_plan.specs.declared.plan.NewBlock.{NewBlock}
use Rattle.gen_plan.specs.Fresh.{edge_hint, fresh}
use Rattle.ir_model.specs.Log.{is_at}
use Rattle.ir_tree.specs.Graphs.{FlowGraph, block_of}
use Rattle.ir_tree.specs.Operands.{listed}
use Rattle.ir_tree.specs.declared.edge.Edge.{Edge}
use Rattle.ir_tree.specs.declared.types.Function.{Function}
use Rattle.spec_lists.specs.Each.{each, first_of}

-- the counter of edge e: its rank among the counted edges
abbrev pub counter_of : List ℕ → ℕ → Option ℕ
counter_of counted e = position (λ c. c == e) counted

-- ---- the edges at a block

abbrev pub leaves : ℕ → Edge → Bool
leaves b e = is_at b e.block

abbrev pub enters : FlowGraph → ℕ → Edge → Bool
enters g b e = is_at b (block_of g e.to)

abbrev pub ways_from : FlowGraph → ℕ → ℕ
ways_from g b = count_by (leaves b) g.edges

abbrev pub ways_into : FlowGraph → ℕ → ℕ
ways_into g b = count_by (enters g b) g.edges

-- there is a block, and one such edge at it
abbrev pub is_only_one : (ℕ → ℕ) → Option ℕ → Bool
is_only_one ways None = false
is_only_one ways (Some b) = ways b == 1

-- ---- the three places

abbrev pub at_tail : FlowGraph → Edge → Bool
at_tail g e = is_only_one (ways_from g) e.block

abbrev pub at_head : FlowGraph → Edge → Bool
at_head g e = not (at_tail g e) && is_only_one (ways_into g) (block_of g e.to)

abbrev pub on_edge : FlowGraph → Edge → Bool
on_edge g e = not (at_tail g e) && not (at_head g e)

-- what is made of the numbers of the edges that pass a test
abbrev pub of_edges : {X : Type 0} → List Edge → (Edge → Bool) → (ℕ → List X) → List X
of_edges edges test make = each (λ k e. cond (test e) (make k) []) 0 edges

-- the counter before the terminator of a block, at its head, and the new block on its way out by the successor at a position
abbrev pub tail_counter : FlowGraph → List ℕ → ℕ → Option ℕ
tail_counter g counted b = first_of (of_edges g.edges (λ e. leaves b e && at_tail g e) (λ k. listed (counter_of counted k)))

abbrev pub head_counter : FlowGraph → List ℕ → ℕ → Option ℕ
head_counter g counted b = first_of (of_edges g.edges (λ e. enters g b e && at_head g e) (λ k. listed (counter_of counted k)))

abbrev pub edge_block : Function → ℕ → ℕ → NewBlock
edge_block f k counter = record { label = fresh f (edge_hint k); counter = Some counter }

abbrev pub new_on : Function → FlowGraph → List ℕ → ℕ → ℕ → Option NewBlock
new_on f g counted b p =
    first_of (of_edges g.edges (λ e. leaves b e && (e.position == p && on_edge g e)) (λ k. listed (option_map (edge_block f k) (counter_of counted k))))
