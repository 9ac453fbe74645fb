use Rattle.std.proofs.Common.{List, sym, ap, ◌∙◌}
use Rattle.check_names.proofs.Outside.{one_kind_places}
use Rattle.ir_rules.specs.Parts.{unless}
use Rattle.ir_rules.specs.declared.place.Place.{Place}
use Rattle.spec_lists.specs.Each.{first_of}
use Rattle.check_names.proofs.kinds.of_two_kinds.Goals as goal

pub returns : goal.returns
returns c = c.unless.ensures ∙ (λ j. first_of (unless (c.is_of_one_kind.ensures j) (c.item_place.ensures j))) ∙ ap (λ (ps : List Place). first_of ps) (sym (one_kind_places c.args.module.now))
