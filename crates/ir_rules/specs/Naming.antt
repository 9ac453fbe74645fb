-- Rule 1. Global variables and functions have distinct names, of which none is digits alone. Parameters of a definition,
-- labels and results have names too; parameters of a declaration have the empty name.
use Rattle.std.specs.Prelude.{ℕ, ◌+◌, Bool, true, false, ◌&&◌, List, length, take, Option, None, Some}
use Rattle.std.specs.List.{list_all}
use Rattle.ir_rules.specs.Lists.{is_new}
use Rattle.ir_rules.specs.Parts.{Rule, places, silent}
use Rattle.ir_rules.specs.Scopes.{param_names, symbols}
use Rattle.ir_rules.specs.declared.place.Place.{Place}
use Rattle.ir_tree.specs.Functions.{is_declared}
use Rattle.ir_tree.specs.Operands.{result_name}
use Rattle.ir_tree.specs.Spelling.{is_empty, is_global_name, is_local_name}
use Rattle.ir_tree.specs.declared.types.Function.{Function}
use Rattle.ir_tree.specs.declared.types.Instr.{Instr}
use Rattle.ir_tree.specs.declared.types.Module.{Module}

-- the symbol at place p of the module's is no name of those before it
abbrev pub is_new_symbol : Module → ℕ → List ℕ → Bool
is_new_symbol m p name = is_new name (take p (symbols m))

abbrev pub is_param_name : Bool → List ℕ → Bool
is_param_name true name = is_empty name
is_param_name false name = is_local_name name

abbrev pub are_param_names : Function → Bool
are_param_names f = list_all (is_param_name (is_declared f)) (param_names f)

abbrev pub is_local_if_any : Option (List ℕ) → Bool
is_local_if_any None = true
is_local_if_any (Some name) = is_local_name name

abbrev pub has_result_name : Instr → Bool
has_result_name x = is_local_if_any (result_name x)

abbrev pub naming : Module → Rule
naming m = record silent {
  global = λ n g. is_global_name g.name && is_new_symbol m n g.name;
  head = λ k f. is_global_name f.name && (is_new_symbol m (length m.globals + k) f.name && are_param_names f);
  label = λ f b block. is_local_name block.label;
  item = λ f b block i x. has_result_name x;
}

abbrev pub breaks_1 : Module → List Place
breaks_1 m = places (naming m) m
