-- The rules in the groups in which they are tried, each group in order of number: what is told of names and globals, of the ways between
-- blocks, of operands, of registers along walks, and of counters.
use Rattle.std.specs.Prelude.{◌≡◌, ℕ, List, [], ◌∷◌, ◌++◌, map, refl}
use Rattle.ir_rules.specs.AllRules.{all_broken, rules, with_number}
use Rattle.ir_rules.specs.Assigned.{assigned}
use Rattle.ir_rules.specs.Calling.{calling}
use Rattle.ir_rules.specs.Cases.{cases}
use Rattle.ir_rules.specs.Counting.{counting}
use Rattle.ir_rules.specs.Declarations.{declarations}
use Rattle.ir_rules.specs.Distinct.{distinct}
use Rattle.ir_rules.specs.Existing.{existing}
use Rattle.ir_rules.specs.Initialisers.{initialisers}
use Rattle.ir_rules.specs.Intrinsics.{intrinsics}
use Rattle.ir_rules.specs.Naming.{naming}
use Rattle.ir_rules.specs.OneKind.{one_kind}
use Rattle.ir_rules.specs.Parts.{Rule, function_places}
use Rattle.ir_rules.specs.PhiEntries.{phi_entries}
use Rattle.ir_rules.specs.PhiPlaces.{phi_places}
use Rattle.ir_rules.specs.Reserved.{reserved}
use Rattle.ir_rules.specs.Returning.{returning}
use Rattle.ir_rules.specs.Targets.{targets}
use Rattle.ir_rules.specs.Typing.{typing}
use Rattle.ir_rules.specs.Weighing.{weighing}
use Rattle.ir_rules.specs.declared.place.Place.{Place}
use Rattle.ir_tree.specs.declared.types.Function.{Function}
use Rattle.ir_tree.specs.declared.types.Module.{Module}
use Rattle.spec_lists.specs.Each.{each}

-- rules 1 to 6
abbrev pub name_rules : Module → List Rule
name_rules m = naming m ∷ one_kind m ∷ reserved m ∷ declarations ∷ initialisers m ∷ distinct ∷ []

-- rules 7 to 10
abbrev pub flow_rules : List Rule
flow_rules = targets ∷ cases ∷ phi_places ∷ phi_entries ∷ []

-- rules 11 to 15
abbrev pub operand_rules : Module → List Rule
operand_rules m = existing m ∷ typing ∷ calling m ∷ returning ∷ weighing ∷ []

-- rules 17 and 18, behind rule 16
abbrev pub counting_rules : Module → List Rule
counting_rules m = intrinsics m ∷ counting m ∷ []

abbrev pub by_groups : Module → List Rule
by_groups m = name_rules m ++ (flow_rules ++ (operand_rules m ++ (assigned ∷ counting_rules m)))

-- they are all of them, in order
pub are_all : (m : Module) → by_groups m ≡ rules m
unfolding rules
are_all m = refl

-- ---- the places at which a module, or a function of it, breaks rules that are numbered from n

unfoldable pub broken_from : Module → ℕ → List Rule → List (ℕ × Place)
broken_from m n group = each (with_number m) n group

abbrev pub function_breaks : ℕ → Function → ℕ → Rule → List (ℕ × Place)
function_breaks k f n r = map (λ at. (n, at)) (function_places r k f)

unfoldable pub broken_in : ℕ → Function → ℕ → List Rule → List (ℕ × Place)
broken_in k f n group = each (function_breaks k f) n group
