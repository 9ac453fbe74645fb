use Rattle.std.proofs.Common.{List, not, sym, ap, ◌∙◌}
use Rattle.check_names.proofs.Outside.{reserved_places}
use Rattle.check_names.specs.Outer.{global_places, head_places}
use Rattle.ir_rules.specs.Reserved.{is_reserved_function, is_reserved_variable, reserved}
use Rattle.ir_rules.specs.declared.place.Place.{Place}
use Rattle.spec_lists.specs.Each.{first_of}
use Rattle.check_names.proofs.reserved.reserved.Goals as goal

pub returns : goal.returns
returns c =
    let m = c.args.module.now in
    c.first_of_both.ensures (global_places (reserved m).global m.globals) (head_places (reserved m).head m.functions)
    (c.reserved_variable.ensures ∙ (λ j. first_of (global_places (λ n g. not (is_reserved_variable (c.requires.kind j) g.name)) (c.as_slice.ensures j))))
    (c.reserved_function.ensures ∙ (λ j. first_of (head_places (λ k f. not (is_reserved_function (c.requires.kind j) f.name)) (c.as_slice-2.ensures j))))
    ∙ ap (λ (ps : List Place). first_of ps) (sym (reserved_places m))
