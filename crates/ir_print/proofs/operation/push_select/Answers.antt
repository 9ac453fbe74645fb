use Rattle.std.proofs.lemmas.Result.{on_ok_weaker}
use Rattle.ir_print.proofs.Pushed.{select_pushed}
use Rattle.ir_print.proofs.operation.push_select.Goals as goal

pub returns : goal.returns
returns c =
    on_ok_weaker c.push_choices.result
    (λ e. select_pushed c.args.nodes.now c.args.dest.now c.args.cond.now c.args.ty c.args.first.now c.args.second.now c.args.prof.now c.args.out.now.items _ _ _ _ _ c.in_ok-push_named.ensures c.in_ok-push.ensures c.in_ok-push_operand.ensures c.in_ok-push-2.ensures e)
    c.push_choices.ensures
