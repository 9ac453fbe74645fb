-- The rules on functions, and the first that some functions of a module break.
use Rattle.std.specs.Prelude.{ℕ, cond, nat_lt, List, ◌∷◌, ◌++◌, map, Option, None, Some}
use Rattle.ir_rules.specs.Assigned.{assigned}
use Rattle.ir_rules.specs.Parts.{Rule, function_places}
use Rattle.ir_rules.specs.declared.place.Place.{Place}
use Rattle.ir_tree.specs.declared.types.Function.{Function}
use Rattle.ir_tree.specs.declared.types.Module.{Module}
use Rattle.rule_groups.specs.Groups.{counting_rules, flow_rules, operand_rules}
use Rattle.spec_lists.specs.Each.{each}

-- rules 7 to 18
abbrev pub function_rules : Module → List Rule
function_rules m = flow_rules ++ (operand_rules m ++ (assigned ∷ counting_rules m))

-- rules that are numbered from n, each with the places that are given for it
abbrev pub numbered : (Rule → List Place) → ℕ → List Rule → List (ℕ × Place)
numbered given n rules = each (λ number rule. map (λ at. (number, at)) (given rule)) n rules

-- the places at which these functions break them, the functions counted from 0
unfoldable pub faults : Module → List Function → List (ℕ × Place)
faults m functions = numbered (λ rule. each (function_places rule) 0 functions) 7 (function_rules m)

-- that of the lower rule, the earlier one where both are of one rule
abbrev pub lowest : Option (ℕ × Place) → Option (ℕ × Place) → Option (ℕ × Place)
lowest None later = later
lowest (Some a) None = Some a
lowest (Some a) (Some b) = cond (nat_lt b.0 a.0) (Some b) (Some a)
