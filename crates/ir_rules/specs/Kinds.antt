-- What kind a module is, by the functions that it declares, and the names that a profile gives to what it adds.
use Rattle.std.specs.Prelude.{ℕ, Bool, true, false, ◌&&◌, ◌||◌, not, if◌then◌else◌, List, codes, drop}
use Rattle.std.specs.List.{list_any}
use Rattle.ir_rules.specs.declared.place.Kind.{Kind}
use Rattle.ir_rules.specs.declared.place.Kind.TheVariants.{Plain, Counted, Lowered}
use Rattle.ir_tree.specs.Functions.{begins_with, is_declared}
use Rattle.ir_tree.specs.Names.{same}
use Rattle.ir_tree.specs.declared.types.Function.{Function}

abbrev pub declares : List ℕ → Function → Bool
declares name f = is_declared f && same f.name name

-- instrumented: it declares LLVM's intrinsic for counters
unfoldable pub declares_increments : List Function → Bool
declares_increments functions = list_any (declares (codes "llvm.instrprof.increment")) functions

-- lowered: it declares the profile runtime's function for call targets
unfoldable pub declares_notes : List Function → Bool
declares_notes functions = list_any (declares (codes "__llvm_profile_instrument_target")) functions

abbrev pub kind_of : List Function → Kind
kind_of functions = if declares_increments functions then Counted else (if declares_notes functions then Lowered else Plain)

abbrev pub is_plain_kind : Kind → Bool
is_plain_kind Plain = true
is_plain_kind Counted = false
is_plain_kind Lowered = false

abbrev pub is_lowered_kind : Kind → Bool
is_lowered_kind Plain = false
is_lowered_kind Counted = false
is_lowered_kind Lowered = true

-- the global variables of a profile: the name of a unit, its counters, and its data
unfoldable pub is_unit_name : List ℕ → Bool
is_unit_name name = begins_with (codes "__profn_") name

unfoldable pub is_unit_counters : List ℕ → Bool
is_unit_counters name = begins_with (codes "__profc_") name

unfoldable pub is_unit_data : List ℕ → Bool
is_unit_data name = begins_with (codes "__profd_") name

abbrev pub is_unit_part : List ℕ → Bool
is_unit_part name = is_unit_name name || (is_unit_counters name || is_unit_data name)

-- a plain module has no profile, so none of its globals is one of a profile
abbrev pub is_profile_variable : Kind → List ℕ → Bool
is_profile_variable kind name = not (is_plain_kind kind) && is_unit_part name

-- the name of a unit, behind the front of the name of one of its globals
abbrev pub unit_of : List ℕ → List ℕ
unit_of name = drop 8 name
