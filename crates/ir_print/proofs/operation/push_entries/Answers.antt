use Rattle.text_pieces.specs.declared.stop.Stop.TheVariants as stops
use Rattle.text_pieces.specs.Lists.{item_pushed, items_pushed}
use Rattle.canonical_text.specs.Instructions.{entry_pieces}
use Rattle.ir_print.proofs.operation.push_entries.Goals as goal

pub loop-i-preserved : goal.loop-i-preserved
loop-i-preserved c =
    item_pushed (entry_pieces c.args.ty) stops.Line c.args.entries.now c.loop-i.i c.index-entries-i.result c.index-entries-i.result c.stop_at.result _ _ _ c.loop-i-test.true c.index-entries-i.is c.stop_at.ensures c.in_ok-push_entry.ensures c.loop-i.invariant

pub returns : goal.returns
returns c = items_pushed (entry_pieces c.args.ty) stops.Line c.args.entries.now c.loop-i.i _ _ c.loop-i-test.false c.loop-i.invariant
