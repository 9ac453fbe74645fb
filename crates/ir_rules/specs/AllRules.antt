-- All rules in order of number, and all places that break them.
use Rattle.std.specs.Prelude.{ℕ, List, [], ◌∷◌, map}
use Rattle.ir_rules.specs.Assigned.{assigned}
use Rattle.ir_rules.specs.Calling.{calling}
use Rattle.ir_rules.specs.Cases.{cases}
use Rattle.ir_rules.specs.Counting.{counting}
use Rattle.ir_rules.specs.Declarations.{declarations}
use Rattle.ir_rules.specs.Distinct.{distinct}
use Rattle.ir_rules.specs.Existing.{existing}
use Rattle.ir_rules.specs.Initialisers.{initialisers}
use Rattle.ir_rules.specs.Intrinsics.{intrinsics}
use Rattle.ir_rules.specs.Naming.{naming}
use Rattle.ir_rules.specs.OneKind.{one_kind}
use Rattle.ir_rules.specs.Parts.{Rule, places}
use Rattle.ir_rules.specs.PhiEntries.{phi_entries}
use Rattle.ir_rules.specs.PhiPlaces.{phi_places}
use Rattle.ir_rules.specs.Reserved.{reserved}
use Rattle.ir_rules.specs.Returning.{returning}
use Rattle.ir_rules.specs.Targets.{targets}
use Rattle.ir_rules.specs.Typing.{typing}
use Rattle.ir_rules.specs.Weighing.{weighing}
use Rattle.ir_rules.specs.declared.place.Place.{Place}
use Rattle.ir_tree.specs.declared.types.Module.{Module}
use Rattle.spec_lists.specs.Each.{each}

-- the first of them is rule 1
unfoldable pub rules : Module → List Rule
rules m = naming m ∷ one_kind m ∷ reserved m ∷ declarations ∷ initialisers m ∷ distinct ∷ targets ∷ cases ∷ phi_places ∷ phi_entries ∷ existing m ∷ typing ∷ calling m ∷ returning ∷ weighing ∷ assigned ∷ intrinsics m ∷ counting m ∷ []

-- a rule by its number, with each place that breaks it
abbrev pub with_number : Module → ℕ → Rule → List (ℕ × Place)
with_number m n r = map (λ at. (n, at)) (places r m)

-- the rules that a module breaks, in order of number, each with all its places in text order
unfoldable pub all_broken : Module → List (ℕ × Place)
all_broken m = each (with_number m) 1 (rules m)
