use Rattle.std.proofs.Common.{◌≡◌, List, None, Some, ◌∷◌, [], sym, ◌∙◌}
use Rattle.check_names.proofs.Fewness.{has_few}
use Rattle.check_names.proofs.Firsts.{rule_found, rule_passed}
use Rattle.check_names.proofs.Once.{names_once}
use Rattle.ir_rules.specs.AllRules.{with_number}
use Rattle.ir_rules.specs.Declarations.{declarations}
use Rattle.ir_rules.specs.Distinct.{distinct}
use Rattle.ir_rules.specs.Initialisers.{initialisers}
use Rattle.ir_rules.specs.Naming.{naming}
use Rattle.ir_rules.specs.OneKind.{one_kind}
use Rattle.ir_rules.specs.Parts.{Rule, places}
use Rattle.ir_rules.specs.Reserved.{reserved}
use Rattle.ir_rules.specs.declared.place.Place.{Place}
use Rattle.ir_tree.specs.declared.types.Module.{Module}
use Rattle.rule_groups.specs.Groups.{broken_from}
use Rattle.spec_lists.specs.Each.{each, first_of}
use Rattle.check_names.proofs.first.first_of_names.Goals as goal

abbrev behind : Module → List Rule
behind m = one_kind m ∷ reserved m ∷ declarations ∷ initialisers m ∷ distinct ∷ []

pub misnamed-requires : goal.misnamed-requires
misnamed-requires c = record { few = has_few c.args.module.now c.requires.within }

pub first_behind-requires-clause-few : goal.first_behind-requires-clause-few
first_behind-requires-clause-few c = has_few c.args.module.now c.requires.within

pub first_behind-requires-clause-once : goal.first_behind-requires-clause-once
first_behind-requires-clause-once c = names_once c.args.module.now (cc (c.in_ok-index.ensures.found, c.in-None.is))

pub returns-in-Some-clause-found : goal.returns-in-Some-clause-found
unfolding broken_from
returns-in-Some-clause-found c =
    let m = c.args.module.now in
    let found : first_of (places (naming m) m) ≡ Some c.in-Some.at = cc (c.in_ok-index.ensures.found, c.in-Some.is) in
    sym (rule_found (λ (at : Place). (1, at)) (places (naming m) m) (each (with_number m) 2 (behind m)) c.in-Some.at found)

pub returns-in_ok-broken-in-None-clause-found : goal.returns-in_ok-broken-in-None-clause-found
unfolding broken_from
returns-in_ok-broken-in-None-clause-found c =
    let m = c.args.module.now in
    let none : first_of (places (naming m) m) ≡ None = cc (c.in_ok-index.ensures.found, c.in-None.is) in
    c.in_ok-broken-in-None.ensures ∙ sym (rule_passed (λ (at : Place). (1, at)) (places (naming m) m) (each (with_number m) 2 (behind m)) none)
