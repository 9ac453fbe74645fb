use Rattle.std.proofs.Common.{ap, sym, ◌∙◌, List}
use Rattle.check_counting.proofs.Parts.{item_rule}
use Rattle.check_counting.specs.Checking.{item_places, keeps}
use Rattle.ir_rules.specs.declared.place.Place.{Place}
use Rattle.ir_tree.specs.declared.types.Block.{Block}
use Rattle.spec_lists.specs.Each.{each, first_of}
use Rattle.check_counting.proofs.walk.first_off.Goals as goal

pub returns : goal.returns
returns c =
    c.off_in_blocks.ensures ∙ ap (λ (blocks : List Block). first_of (each (item_places (keeps c.args.checked c.args.«module».now) c.args.k) 0 blocks)) c.as_slice.ensures ∙ sym (ap (λ (ps : List Place). first_of ps) (item_rule c.args.checked c.args.«module».now c.args.k c.args.f.now))
