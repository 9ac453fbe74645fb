use Rattle.std.proofs.lemmas.Result.{on_ok_weaker}
use Rattle.ir_print.proofs.Pushed.{functions_pushed}
use Rattle.ir_print.proofs.text.push_parted.Goals as goal

pub returns : goal.returns
returns c =
    on_ok_weaker c.push_others.result
    (λ e. functions_pushed c.args.nodes.now c.args.preceded c.args.first.now c.args.others.now c.args.out.now.items _ _ c.in_ok-push_first.ensures e)
    c.push_others.ensures
