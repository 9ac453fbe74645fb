use Rattle.std.proofs.Common.{List, ◌∙◌, ap, sym, Option, ℕ}
use Rattle.check_names.proofs.Literals.{list_literals}
use Rattle.check_names.specs.Told.{literals_in_list, told}
use Rattle.ir_rules.specs.Units.{as_data, literals_of}
use Rattle.ir_tree.specs.declared.types.Init.{Init}
use Rattle.check_names.proofs.unit.told_in.Goals as goal

pub returns-in-List : goal.returns-in-List
returns-in-List c = c.told_in_list.ensures ∙ (ap (λ (is : List Init). told (as_data (literals_in_list is))) c.as_slice.ensures ∙ (ap (λ (o : Option (List ℕ)). told (as_data o)) (sym (list_literals c.in-List.items)) ∙ ap (λ (i : Init). told (as_data (literals_of i))) (sym c.in-List.is)))
