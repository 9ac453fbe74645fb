use Rattle.std.proofs.Common.{List, sym, ap, ◌∙◌}
use Rattle.check_names.proofs.Outside.{named_places}
use Rattle.check_names.specs.Outer.{global_places}
use Rattle.ir_rules.specs.Naming.{naming}
use Rattle.ir_rules.specs.Parts.{function_places}
use Rattle.ir_rules.specs.declared.place.Place.{Place}
use Rattle.spec_lists.specs.Each.{each, first_of}
use Rattle.check_names.proofs.naming.misnamed.Goals as goal

pub returns-clause-found : goal.returns-clause-found
returns-clause-found c =
    let m = c.args.module.now in
    c.first_of_both.ensures (global_places (naming m).global m.globals) (each (function_places (naming m)) 0 m.functions) c.in_ok-variable.ensures.found c.in_ok-function.ensures.found
    ∙ ap (λ (ps : List Place). first_of ps) (sym (named_places m))
