-- The first of rules 11 to 15 that is broken at the places that each rule has, and the lower of two.
use Rattle.std.specs.Prelude.{ℕ, cond, nat_lt, List, map, Option, None, Some}
use Rattle.ir_rules.specs.Parts.{Rule}
use Rattle.ir_rules.specs.declared.place.Place.{Place}
use Rattle.ir_tree.specs.declared.types.Module.{Module}
use Rattle.rule_groups.specs.Groups.{operand_rules}
use Rattle.spec_lists.specs.Each.{each, first_of}

-- a rule's number and a place that breaks it
abbrev pub Fault : Type 0
Fault = ℕ × Place

-- the faults of rules that are numbered from n, where `given` has the places that break a rule
abbrev pub numbered : (Rule → List Place) → ℕ → List Rule → List Fault
numbered given n rules = each (λ number r. map (λ at. (number, at)) (given r)) n rules

unfoldable pub first_broken : Module → (Rule → List Place) → Option Fault
first_broken m given = first_of (numbered given 11 (operand_rules m))

-- the fault of the lower rule, the earlier one where both are of one rule
abbrev pub lower : Option Fault → Option Fault → Option Fault
lower None later = later
lower (Some a) None = Some a
lower (Some a) (Some b) = cond (nat_lt b.0 a.0) (Some b) (Some a)
