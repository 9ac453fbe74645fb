-- Rule 6. The parameters, labels and results of a function have distinct names. A name that stands more than once breaks
-- the rule at each occurrence but the first.
use Rattle.std.specs.Prelude.{ℕ, Bool, true, ◌||◌, List, [], ◌∷◌, ◌++◌, flat_map, take, Option, None, Some}
use Rattle.ir_rules.specs.Lists.{are_new, is_new}
use Rattle.ir_rules.specs.Parts.{Rule, places, silent}
use Rattle.ir_rules.specs.Scopes.{block_names, param_names}
use Rattle.ir_rules.specs.declared.place.Place.{Place}
use Rattle.ir_tree.specs.Functions.{is_declared}
use Rattle.ir_tree.specs.Operands.{result_name, result_names}
use Rattle.ir_tree.specs.declared.types.Block.{Block}
use Rattle.ir_tree.specs.declared.types.Function.{Function}
use Rattle.ir_tree.specs.declared.types.Module.{Module}

-- the names of a function before block b, and before instruction i of it
abbrev pub names_before : Function → ℕ → List (List ℕ)
names_before f b = param_names f ++ flat_map block_names (take b f.blocks)

abbrev pub names_before_item : Function → ℕ → Block → ℕ → List (List ℕ)
names_before_item f b block i = names_before f b ++ (block.label ∷ result_names (take i block.instrs))

abbrev pub is_new_if_any : Option (List ℕ) → List (List ℕ) → Bool
is_new_if_any None names = true
is_new_if_any (Some name) names = is_new name names

abbrev pub distinct : Rule
distinct = record silent {
  head = λ k f. is_declared f || are_new [] (param_names f);
  label = λ f b block. is_new block.label (names_before f b);
  item = λ f b block i x. is_new_if_any (result_name x) (names_before_item f b block i);
}

abbrev pub breaks_6 : Module → List Place
breaks_6 m = places distinct m
