use Rattle.std.proofs.lemmas.Result.{on_ok_weaker}
use Rattle.ir_print.proofs.Pushed.{braced_pushed}
use Rattle.ir_print.proofs.function.push_braced.Goals as goal

pub returns : goal.returns
returns c =
    on_ok_weaker c.push-2.result
    (λ e. braced_pushed c.args.nodes.now c.args.blocks.now c.args.out.now.items _ _ _ c.in_ok-push.ensures c.in_ok-push_blocks.ensures e)
    c.push-2.ensures
