-- The limits of a module, quantity by quantity.
use Rattle.std.specs.Prelude.{◌≡◌, ℕ, ◌≤◌, ◌↔◌, [], length}
use Rattle.ir_rules.specs.Kinds.{kind_of}
use Rattle.ir_rules.specs.Limits.{all_arrays, cells, counters_in, most, passed, registers, sites_in}
use Rattle.ir_rules.specs.Lists.{Among}
use Rattle.ir_rules.specs.declared.place.Kind.{Kind}
use Rattle.ir_rules.specs.declared.place.LimitKind.TheVariants.{Functions, Globals, Edges, Registers, Object, Cells, Sites, Counters}
use Rattle.ir_tree.specs.Edges.{edges_in}
use Rattle.ir_tree.specs.declared.types.Function.{Function}
use Rattle.ir_tree.specs.declared.types.Module.{Module}

-- within each limit of the kind
pub record IsWithin (kind : Kind) (m : Module) : Type 0 where
  pub functions : length m.functions ≤ most kind Functions
  pub globals : length m.globals ≤ most kind Globals
  pub edges : (f : Function) → Among f m.functions → edges_in f ≤ most kind Edges
  pub results : (f : Function) → Among f m.functions → registers kind f ≤ most kind Registers
  pub objects : (size : ℕ) → Among size (all_arrays m) → size ≤ most kind Object
  pub memory : cells m ≤ most kind Cells
  pub sites : sites_in kind m ≤ most kind Sites
  pub counted : counters_in kind m ≤ most kind Counters

abbrev pub LimitsAreKept : Type 0
LimitsAreKept = (m : Module) → (passed m ≡ []) ↔ IsWithin (kind_of m.functions) m
