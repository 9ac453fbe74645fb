use Rattle.std.proofs.lemmas.Result.{on_ok_weaker}
use Rattle.ir_print.proofs.Pushed.{definition_pushed}
use Rattle.ir_print.proofs.function.push_definition.Goals as goal

pub returns : goal.returns
returns c =
    on_ok_weaker c.push_body.result
    (λ e. definition_pushed c.args.nodes.now c.args.function.now c.as_slice.result.now c.args.out.now.items _ _ c.as_slice.ensures c.in_ok-push_head.ensures e)
    c.push_body.ensures
