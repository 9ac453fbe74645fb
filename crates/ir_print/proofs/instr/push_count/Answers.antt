use Rattle.std.proofs.lemmas.Result.{on_ok_weaker}
use Rattle.ir_print.proofs.Pushed.{count_pushed}
use Rattle.ir_print.proofs.instr.push_count.Goals as goal

pub returns : goal.returns
returns c =
    on_ok_weaker c.push_step.result
    (λ e. count_pushed c.args.symbol.now c.args.size c.args.index c.args.step.now c.args.out.now.items _ _ _ _ c.in_ok-push.ensures c.in_ok-push_counter.ensures c.in_ok-push-2.ensures e)
    c.push_step.ensures
