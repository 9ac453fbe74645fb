-- The counted edges whose counters stand in new blocks.
use Rattle.std.specs.Prelude.{ℕ, ◌==◌, ◌&&◌, List, Option}
use Rattle.std.specs.Option.{option_map}
use Rattle.gen_plan.specs.Placing.{counter_of, leaves, of_edges, on_edge}
use Rattle.ir_tree.specs.Graphs.{FlowGraph}
use Rattle.ir_tree.specs.Operands.{listed}
use Rattle.ir_tree.specs.declared.edge.Edge.{Edge}
use Rattle.spec_lists.specs.Each.{first_of}

-- the number of the one, of these edges, that leaves block b by the successor at position p
abbrev pub edge_on : FlowGraph → List ℕ → List Edge → ℕ → ℕ → Option ℕ
edge_on g counted edges b p =
    first_of (of_edges edges (λ e. leaves b e && (e.position == p && on_edge g e)) (λ k. listed (option_map (λ c. k) (counter_of counted k))))
