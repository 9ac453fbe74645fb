use Rattle.std.proofs.Common.{List, ◌∙◌, ap, sym, Option, ℕ}
use Rattle.check_counting.proofs.Literals.{list_literals}
use Rattle.check_counting.specs.Sites.{literals_in_list}
use Rattle.ir_rules.specs.Units.{as_data, literals_of, sites_in}
use Rattle.ir_tree.specs.declared.types.Init.{Init}
use Rattle.check_counting.proofs.sites.sites_in.Goals as goal

pub returns-in-List : goal.returns-in-List
returns-in-List c = c.sites_in_list.ensures ∙ (ap (λ (is : List Init). sites_in (as_data (literals_in_list is))) c.as_slice.ensures ∙ (ap (λ (o : Option (List ℕ)). sites_in (as_data o)) (sym (list_literals c.in-List.items)) ∙ ap (λ (i : Init). sites_in (as_data (literals_of i))) (sym c.in-List.is)))
