use Rattle.std.proofs.Common.{ap, sym, ◌∙◌, List}
use Rattle.check_flow.proofs.Parts.{item_rule}
use Rattle.check_flow.specs.LookUps.{item_places}
use Rattle.ir_rules.specs.PhiPlaces.{is_placed_well}
use Rattle.ir_rules.specs.declared.place.Place.{Place}
use Rattle.ir_tree.specs.declared.types.Block.{Block}
use Rattle.spec_lists.specs.Each.{each, first_of}
use Rattle.check_flow.proofs.heads.first_phi_behind.Goals as goal

pub returns : goal.returns
returns c =
    c.phi_behind_in.ensures ∙ ap (λ (blocks : List Block). first_of (each (item_places is_placed_well c.args.k) 0 blocks)) c.as_slice.ensures ∙ sym (ap (λ (ps : List Place). first_of ps) (item_rule (λ f b block i x. is_placed_well b block.instrs i x) c.args.k c.args.f.now))
