use Rattle.std.proofs.Common.{◌∙◌, sym, ap}
use Rattle.std.proofs.lemmas.Result.{on_ok_weaker}
use Rattle.ir_tree.specs.declared.types.Init.TheVariants as init
use Rattle.text_pieces.specs.declared.stop.Stop.TheVariants as stops
use Rattle.text_pieces.specs.Lists.{item_pushed, items_pushed}
use Rattle.ir_print.proofs.Trees.{init_item, item_joined, list_pushed, zero_pushed}
use Rattle.ir_print.proofs.init.+push_init.Goals as goal

pub loop-i-preserved : goal.loop-i-preserved
loop-i-preserved t c =
    item_pushed (init_item c.element_of-element.result.now) stops.CloseBracket c.as_slice-items.result.now c.loop-i.i c.index-items-i.result c.index-items-i.result c.stop_at-close.result _ _ _ c.loop-i-test.true c.index-items-i.is c.stop_at-close.ensures
    (item_joined c.element_of-element.result.now c.index-items-i.result c.stop_at-close.result _ _ _ c.in_ok-push_memory-in-List.ensures c.in_ok-push_init-in-List.ensures)
    c.loop-i.invariant

pub returns-after-loop-i : goal.returns-after-loop-i
returns-after-loop-i t c =
    on_ok_weaker c.push_list_end.result
    (λ e. list_pushed c.args.mem.now c.args.init.now c.as_slice-items.result.now c.element_of-element.result.now c.is_empty.result c.args.stop c.args.out.now.items _ _ _
    (c.in-List.is ∙ ap init.List (sym c.as_slice-items.ensures)) c.element_of-element.ensures c.is_empty.ensures c.in_ok-push-in-List.ensures
    (items_pushed (init_item c.element_of-element.result.now) stops.CloseBracket c.as_slice-items.result.now c.loop-i.i _ _ c.loop-i-test.false c.loop-i.invariant) e)
    c.push_list_end.ensures

pub returns-in-Zero : goal.returns-in-Zero
returns-in-Zero t c =
    on_ok_weaker c.push_zero.result
    (λ e. zero_pushed c.args.mem.now c.args.init.now c.args.stop c.args.out.now.items _ c.in-Zero.is e)
    c.push_zero.ensures
