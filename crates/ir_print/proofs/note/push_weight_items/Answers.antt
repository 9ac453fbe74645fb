use Rattle.text_pieces.specs.declared.stop.Stop.TheVariants as stops
use Rattle.text_pieces.specs.Lists.{item_pushed, items_pushed}
use Rattle.std.proofs.Common.{refl}
use Rattle.canonical_text.specs.Notes.{weight_pieces}
use Rattle.ir_print.proofs.note.push_weight_items.Goals as goal

pub loop-i-preserved : goal.loop-i-preserved
loop-i-preserved c =
    item_pushed weight_pieces stops.CloseBrace c.args.weights.now c.loop-i.i _ 0 c.stop_at.result _ _ _ c.loop-i-test.true refl c.stop_at.ensures c.in_ok-push_weight.ensures c.loop-i.invariant

pub returns : goal.returns
returns c = items_pushed weight_pieces stops.CloseBrace c.args.weights.now c.loop-i.i _ _ c.loop-i-test.false c.loop-i.invariant
