-- A number for each edge of each function, so that walks can be counted.
use Rattle.std.specs.Prelude.{ℕ, ◌+◌, ◌<◌, List, [], ◌∷◌, Option, Some, None, length, sum_by, take, slice_get}
use Rattle.ir_tree.specs.Edges.{edges_in}
use Rattle.ir_tree.specs.Functions.{function_at, numbered}
use Rattle.ir_tree.specs.Successors.{ways_out}
use Rattle.ir_tree.specs.declared.types.Block.{Block}
use Rattle.ir_tree.specs.declared.types.Function.{Function}
use Rattle.ir_tree.specs.declared.types.Module.{Module}
use Rattle.ir_machine.specs.declared.slots.FunctionSlots.{FunctionSlots}

-- the edges of the functions before a number
abbrev pub first_edge_of : Module → ℕ → ℕ
first_edge_of m k = sum_by edges_in (take k (numbered m.functions))

abbrev pub edges_of_all : Module → ℕ
edges_of_all m = sum_by edges_in (numbered m.functions)

abbrev pub place_in : Option Function → Option ℕ → ℕ → ℕ
place_in None block position = 0
place_in (Some f) None position = 0
place_in (Some f) (Some place) position = 1 + sum_by ways_out (take place f.blocks) + position

-- The slot of an edge: functions follow in the order of the text, and in one its entry and then block by block the edges
-- out by position
abbrev pub slot_of : Module → ℕ → Option ℕ → ℕ → ℕ
slot_of m k block position = first_edge_of m k + place_in (function_at m k) block position

abbrev pub IsWayOut : Option Block → ℕ → Type 0
IsWayOut None position = ⊥
IsWayOut (Some b) position = position < ways_out b

abbrev pub HasEdgeIn : Option Function → Option ℕ → ℕ → Type 0
HasEdgeIn None block position = ⊥
HasEdgeIn (Some f) None position = 0 < length f.blocks
HasEdgeIn (Some f) (Some place) position = IsWayOut (slice_get f.blocks place) position

-- Function k has this edge: the one into its entry, where no block is named and the function is defined, or one out of
-- the block at this place
abbrev pub HasEdge : Module → ℕ → Option ℕ → ℕ → Type 0
HasEdge m k block position = HasEdgeIn (function_at m k) block position

-- the first slots of blocks, from a number on
abbrev pub block_slots : ℕ → List Block → List ℕ
block_slots next [] = []
block_slots next (b ∷ bs) = next ∷ block_slots (next + ways_out b) bs

abbrev pub function_slots : ℕ → Function → FunctionSlots
function_slots next f = record { entry = next; blocks = block_slots (next + 1) f.blocks }

abbrev pub all_slots : ℕ → List Function → List FunctionSlots
all_slots next [] = []
all_slots next (f ∷ fs) = function_slots next f ∷ all_slots (next + edges_in f) fs

abbrev pub from_start : Option ℕ → ℕ → ℕ
from_start None position = 0
from_start (Some start) position = start + position

-- the slot of an edge of a function with these slots
abbrev pub slot_in : FunctionSlots → Option ℕ → ℕ → ℕ
slot_in s None position = s.entry
slot_in s (Some place) position = from_start (slice_get s.blocks place) position

-- the same where the tables may lack the function
abbrev pub slot_at : Option FunctionSlots → Option ℕ → ℕ → ℕ
slot_at None block position = 0
slot_at (Some s) block position = slot_in s block position

abbrev pub entry_or : Option FunctionSlots → ℕ → ℕ
entry_or None total = total
entry_or (Some s) total = s.entry
