-- What the module that counts shows in place of the log of the original: the counter of each counted edge by its rank, that of each
-- select, and the note of each site.
use Rattle.std.specs.Prelude.{ℕ, ◌+◌, ◌==◌, Bool, ◌&&◌, List, [], length, position, Option, None, Some, slice_get}
use Rattle.std.specs.Option.{option_map}
use Rattle.count_likeness.specs.Image.{Image}
use Rattle.gen_plan.specs.Gen.{counted_edges, number_of}
use Rattle.gen_plan.specs.Placing.{counter_of, leaves}
use Rattle.ir_tree.specs.Blocks.{block_place}
use Rattle.ir_tree.specs.Functions.{function_at}
use Rattle.ir_tree.specs.Graphs.{FlowGraph, graph_of}
use Rattle.ir_tree.specs.Operands.{listed}
use Rattle.ir_tree.specs.Phis.{phi_count}
use Rattle.ir_tree.specs.declared.edge.Edge.{Edge}
use Rattle.ir_tree.specs.declared.types.Block.{Block}
use Rattle.ir_tree.specs.declared.types.Function.{Function}
use Rattle.ir_tree.specs.declared.types.Module.{Module}

-- the number of the edge that leaves block b by the successor at position p
abbrev pub edge_of : FlowGraph → ℕ → ℕ → Option ℕ
edge_of g b p = position (λ (e : Edge). leaves b e && e.position == p) g.edges

-- the counter of an edge, where there is an edge and it is counted
abbrev pub counter_at : List ℕ → Option ℕ → Option ℕ
counter_at counted None = None
counter_at counted (Some e) = counter_of counted e

abbrev pub way_counter : Bool → Function → Option ℕ → ℕ → Option ℕ
way_counter entry_first f None p = None
way_counter entry_first f (Some b) p = counter_at (counted_edges entry_first f) (edge_of (graph_of f) b p)

-- the number of the select or site at place i behind the phis of block b
abbrev pub number_in : List (ℕ × ℕ) → ℕ → ℕ → Option Block → Option ℕ
number_in places b i None = None
number_in places b i (Some block) = number_of b (phi_count block.instrs + i) places

abbrev pub number_at : List (ℕ × ℕ) → Function → ℕ → Option ℕ → Option ℕ
number_at places f i None = None
number_at places f i (Some b) = number_in places b i (slice_get f.blocks b)

-- ---- in a function, if there is one

abbrev pub name_of : Option Function → List ℕ
name_of None = []
name_of (Some f) = f.name

abbrev pub entry_of : Bool → Option Function → Option ℕ
entry_of entry_first None = None
entry_of entry_first (Some f) = counter_of (counted_edges entry_first f) 0

abbrev pub way_of : Bool → Option Function → List ℕ → ℕ → Option ℕ
way_of entry_first None l p = None
way_of entry_first (Some f) l p = way_counter entry_first f (block_place f.blocks l) p

abbrev pub condition_of : Bool → Option Function → List ℕ → ℕ → Option ℕ
condition_of entry_first None l i = None
condition_of entry_first (Some f) l i = option_map (λ k. length (counted_edges entry_first f) + k) (number_at (graph_of f).selects f i (block_place f.blocks l))

abbrev pub site_of : Option Function → List ℕ → ℕ → Option ℕ
site_of None l i = None
site_of (Some f) l i = number_at (graph_of f).sites f i (block_place f.blocks l)

-- The unit of a function has its name
abbrev pub gen_image : Bool → Module → Image
gen_image entry_first m = record {
  unit = λ k. name_of (function_at m k);
  entry = λ k. listed (entry_of entry_first (function_at m k));
  way = λ k l p. listed (way_of entry_first (function_at m k) l p);
  condition = λ k l i. condition_of entry_first (function_at m k) l i;
  site = λ k l i. site_of (function_at m k) l i;
}
