-- Rule 3. The names that instrumentation and the profile runtime add stand only in modules that have them: a plain module
-- has none; a counted one has no counters and nothing of the runtime but its version; a lowered one has no intrinsics.
use Rattle.std.specs.Prelude.{ℕ, Bool, ◌&&◌, ◌||◌, not, List, codes}
use Rattle.ir_rules.specs.Kinds.{is_unit_counters, is_unit_data, kind_of}
use Rattle.ir_rules.specs.Parts.{Rule, places, silent}
use Rattle.ir_rules.specs.declared.place.Kind.{Kind}
use Rattle.ir_rules.specs.declared.place.Kind.TheVariants.{Plain, Counted, Lowered}
use Rattle.ir_rules.specs.declared.place.Place.{Place}
use Rattle.ir_tree.specs.Functions.{begins_with}
use Rattle.ir_tree.specs.Names.{same}
use Rattle.ir_tree.specs.declared.types.Module.{Module}

unfoldable pub is_of_intrinsics : List ℕ → Bool
is_of_intrinsics name = begins_with (codes "llvm.instrprof.") name

unfoldable pub is_of_runtime : List ℕ → Bool
is_of_runtime name = begins_with (codes "__llvm_profile") name

unfoldable pub is_of_units : List ℕ → Bool
is_of_units name = begins_with (codes "__prof") name

-- the global variable with the version of raw profiles
unfoldable pub is_version : List ℕ → Bool
is_version name = same (codes "__llvm_profile_raw_version") name

abbrev pub is_reserved_function : Kind → List ℕ → Bool
is_reserved_function Plain name = is_of_units name || (is_of_runtime name || is_of_intrinsics name)
is_reserved_function Counted name = is_unit_counters name || (is_unit_data name || is_of_runtime name)
is_reserved_function Lowered name = is_of_intrinsics name

abbrev pub is_reserved_variable : Kind → List ℕ → Bool
is_reserved_variable Plain name = is_of_units name || (is_of_runtime name || is_of_intrinsics name)
is_reserved_variable Counted name = is_unit_counters name || (is_unit_data name || ((is_of_runtime name && not (is_version name)) || is_of_intrinsics name))
is_reserved_variable Lowered name = is_of_intrinsics name

abbrev pub reserved : Module → Rule
reserved m = record silent {
  global = λ n g. not (is_reserved_variable (kind_of m.functions) g.name);
  head = λ k f. not (is_reserved_function (kind_of m.functions) f.name);
}

abbrev pub breaks_3 : Module → List Place
breaks_3 m = places (reserved m) m
