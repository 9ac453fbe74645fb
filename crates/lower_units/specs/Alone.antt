-- Units by the table: those that value notes alone name, and the globals of those that are used.
use Rattle.std.specs.Prelude.{ℕ, Bool, false, ◌&&◌, List, [], flat_map, find, Option, None, Some, is_none, cond}
use Rattle.std.specs.Option.{option_map}
use Rattle.ir_rules.specs.Kinds.{is_unit_name}
use Rattle.ir_tree.specs.declared.types.Global1.{Global1}
use Rattle.lower_units.specs.Made.{told_globals}
use Rattle.lower_units.specs.declared.told.Told.{Told}
use Rattle.lowering.specs.Refusals.{Refusal, NoIncrement}
use Rattle.lowering.specs.Units.{name_held}

abbrev pub has_none : Option Told → Bool
has_none None = false
has_none (Some told) = is_none told.counters

abbrev pub lacks_counters : (List ℕ → Option Told) → Global1 → Bool
lacks_counters told g = is_unit_name g.name && has_none (told g.name)

abbrev pub first_alone : (List ℕ → Option Told) → List Global1 → Option Refusal
first_alone told globals = option_map (λ (g : Global1). NoIncrement (name_held g)) (find (lacks_counters told) globals)

abbrev pub some_globals : Global1 → Option Told → List Global1
some_globals g None = []
some_globals g (Some told) = told_globals g told

-- the globals of the units that some call names
abbrev pub table_globals : (List ℕ → Option Told) → List Global1 → List Global1
table_globals told globals = flat_map (λ (g : Global1). cond (is_unit_name g.name) (some_globals g (told g.name)) []) globals
