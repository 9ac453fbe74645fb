use Rattle.std.proofs.Common.{List, sym, ap, ◌∙◌, slice_get}
use Rattle.check_names.proofs.Found.{at_none, at_place}
use Rattle.ir_tree.specs.declared.types.Global1.{Global1}
use Rattle.check_names.proofs.units.find_variable.Goals as goal

pub returns-in-Some : goal.returns-in-Some
returns-in-Some c =
    c.variable_at.ensures ∙ ap (λ (gs : List Global1). slice_get gs c.in-Some.place) c.as_slice.ensures
    ∙ at_place c.args.module.now c.args.name.now c.in-Some.place (c.in-Some.ensures ∙ c.requires c.args.name.now)

pub returns-in-None : goal.returns-in-None
returns-in-None c = sym (at_none c.args.module.now c.args.name.now (c.in-None.ensures ∙ c.requires c.args.name.now))
