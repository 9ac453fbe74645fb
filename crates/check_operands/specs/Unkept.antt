-- Which of rules 11 to 15 the parts of a function keep, in order of number, and the first that a part doesn't keep.
use Rattle.std.specs.Prelude.{ℕ, ◌+◌, Bool, true, ◌&&◌, cond, List, [], ◌∷◌, Option, None, Some}
use Rattle.std.specs.List.{list_all}
use Rattle.ir_rules.specs.Calling.{calls_well}
use Rattle.ir_rules.specs.Existing.{all_exist, term_exists}
use Rattle.ir_rules.specs.Returning.{returns_well}
use Rattle.ir_rules.specs.Scopes.{term_reads, values}
use Rattle.ir_rules.specs.Typing.{fits, is_typed, is_typed_term}
use Rattle.ir_rules.specs.Weighing.{has_entries, is_weighed, is_weighed_term}
use Rattle.ir_tree.specs.Functions.{is_declared}
use Rattle.ir_tree.specs.Operands.{operands}
use Rattle.ir_tree.specs.declared.types.Function.{Function}
use Rattle.ir_tree.specs.declared.types.Instr.{Instr}
use Rattle.ir_tree.specs.declared.types.Module.{Module}
use Rattle.ir_tree.specs.declared.types.Term.{Term}

abbrev pub item_keeps : Module → Function → Instr → List Bool
item_keeps m f x = all_exist m f x ∷ (list_all (fits (values f)) (operands x) && is_typed x) ∷ calls_well m x ∷ true ∷ is_weighed x ∷ []

abbrev pub exit_keeps : Module → Function → Term → List Bool
exit_keeps m f t = term_exists m f t ∷ (list_all (fits (values f)) (term_reads t) && is_typed_term t) ∷ true ∷ returns_well f.ret t ∷ is_weighed_term t ∷ []

-- only the last of them speaks of a function's head
abbrev pub head_keeps : Function → List Bool
head_keeps f = true ∷ true ∷ true ∷ true ∷ has_entries (is_declared f) f.prof ∷ []

-- the number of the first rule that isn't kept, counted from n
abbrev pub first_unkept : ℕ → List Bool → Option ℕ
first_unkept n [] = None
first_unkept n (kept ∷ others) = cond kept (first_unkept (n + 1) others) (Some n)
