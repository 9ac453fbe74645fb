use Rattle.text_pieces.specs.declared.stop.Stop.TheVariants as stops
use Rattle.text_pieces.specs.Lists.{item_pushed, items_pushed}
use Rattle.canonical_text.specs.Values.{typed_pieces}
use Rattle.ir_print.proofs.values.push_typed_items.Goals as goal

pub loop-i-preserved : goal.loop-i-preserved
loop-i-preserved c =
    item_pushed typed_pieces c.args.close c.args.list.now c.loop-i.i c.index-list-i.result c.index-list-i.result c.stop_at.result _ _ _ c.loop-i-test.true c.index-list-i.is c.stop_at.ensures c.in_ok-push_typed_item.ensures c.loop-i.invariant

pub returns : goal.returns
returns c = items_pushed typed_pieces c.args.close c.args.list.now c.loop-i.i _ _ c.loop-i-test.false c.loop-i.invariant
