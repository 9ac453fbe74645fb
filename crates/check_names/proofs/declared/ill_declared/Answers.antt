use Rattle.std.proofs.Common.{List, sym, ap, ◌∙◌}
use Rattle.check_names.proofs.Outside.{declared_places}
use Rattle.check_names.specs.Outer.{head_places}
use Rattle.ir_rules.specs.Declarations.{declarations}
use Rattle.ir_rules.specs.declared.place.Place.{Place}
use Rattle.ir_tree.specs.declared.types.Function.{Function}
use Rattle.spec_lists.specs.Each.{first_of}
use Rattle.check_names.proofs.declared.ill_declared.Goals as goal

pub returns : goal.returns
returns c = c.ill_declared_function.ensures ∙ ap (λ (fs : List Function). first_of (head_places declarations.head fs)) c.as_slice.ensures ∙ ap (λ (ps : List Place). first_of ps) (sym (declared_places c.args.module.now))
