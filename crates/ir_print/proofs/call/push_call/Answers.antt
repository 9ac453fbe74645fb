use Rattle.std.proofs.lemmas.Result.{on_ok_weaker}
use Rattle.ir_print.proofs.Pushed.{call_pushed}
use Rattle.ir_print.proofs.call.push_call.Goals as goal

pub returns : goal.returns
returns c =
    on_ok_weaker c.push_arguments.result
    (λ e. call_pushed c.args.nodes.now c.args.dest.now c.args.ret c.args.callee.now c.args.args.now c.args.prof.now c.args.out.now.items _ _ _ c.in_ok-push_dest.ensures c.in_ok-push_callee.ensures e)
    c.push_arguments.ensures
