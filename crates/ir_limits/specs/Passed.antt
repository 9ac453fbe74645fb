-- The limits from one on.
use Rattle.std.specs.Prelude.{ℕ, List, ◌++◌, length, sum_by}
use Rattle.ir_limits.specs.Objects.{arrays_in, over}
use Rattle.ir_rules.specs.Limits.{above, cells_of, counters_in, each_above, most, registers, sites_in}
use Rattle.ir_rules.specs.declared.place.Kind.{Kind}
use Rattle.ir_rules.specs.declared.place.LimitKind.{LimitKind}
use Rattle.ir_rules.specs.declared.place.LimitKind.TheVariants.{Functions, Globals, Edges, Registers, Object, Cells, Sites, Counters}
use Rattle.ir_tree.specs.Edges.{edges_in}
use Rattle.ir_tree.specs.declared.types.Module.{Module}

-- those on sums over the module
abbrev pub from_cells : Kind → Module → List (LimitKind × ℕ)
from_cells kind m = above Cells (most kind Cells) (sum_by (cells_of kind) m.globals) ++ (above Sites (most kind Sites) (sites_in kind m) ++ above Counters (most kind Counters) (counters_in kind m))

-- and those on each function and each array type before them
abbrev pub from_edges : Kind → Module → List (LimitKind × ℕ)
from_edges kind m = each_above Edges (most kind Edges) edges_in m.functions ++ (each_above Registers (most kind Registers) (registers kind) m.functions ++ (over (arrays_in kind m) ++ from_cells kind m))

-- and those on their numbers
abbrev pub from_functions : Kind → Module → List (LimitKind × ℕ)
from_functions kind m = above Functions (most kind Functions) (length m.functions) ++ (above Globals (most kind Globals) (length m.globals) ++ from_edges kind m)
