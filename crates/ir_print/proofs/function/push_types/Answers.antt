use Rattle.text_pieces.specs.declared.stop.Stop.TheVariants as stops
use Rattle.text_pieces.specs.Lists.{item_pushed, items_pushed}
use Rattle.canonical_text.specs.Canonical.{type_pieces}
use Rattle.ir_print.proofs.function.push_types.Goals as goal

pub loop-i-preserved : goal.loop-i-preserved
loop-i-preserved c =
    item_pushed type_pieces stops.CloseParen c.args.params.now c.loop-i.i c.index-params-i.result c.index-params-i.result c.stop_at.result _ _ _ c.loop-i-test.true c.index-params-i.is c.stop_at.ensures c.in_ok-push_type.ensures c.loop-i.invariant

pub returns : goal.returns
returns c = items_pushed type_pieces stops.CloseParen c.args.params.now c.loop-i.i _ _ c.loop-i-test.false c.loop-i.invariant
