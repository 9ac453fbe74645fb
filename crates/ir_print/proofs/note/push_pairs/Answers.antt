use Rattle.std.proofs.Common.{refl}
use Rattle.text_pieces.specs.declared.stop.Stop.TheVariants as stops
use Rattle.text_pieces.specs.Lists.{item_pushed, items_pushed}
use Rattle.canonical_text.specs.Notes.{pair_pieces}
use Rattle.ir_print.proofs.note.push_pairs.Goals as goal

pub loop-i-preserved : goal.loop-i-preserved
loop-i-preserved c =
    item_pushed pair_pieces stops.CloseBrace c.args.list.now c.loop-i.i _ (0, 0) c.stop_at.result _ _ _ c.loop-i-test.true refl c.stop_at.ensures c.in_ok-push_pair.ensures c.loop-i.invariant

pub returns : goal.returns
returns c = items_pushed pair_pieces stops.CloseBrace c.args.list.now c.loop-i.i _ _ c.loop-i-test.false c.loop-i.invariant
