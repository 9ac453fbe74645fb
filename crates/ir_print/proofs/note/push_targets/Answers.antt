use Rattle.std.proofs.lemmas.Result.{on_ok_weaker}
use Rattle.ir_print.proofs.Pushed.{targets_pushed}
use Rattle.ir_print.proofs.note.push_targets.Goals as goal

pub returns : goal.returns
returns c =
    on_ok_weaker c.push_pairs.result
    (λ e. targets_pushed c.args.total c.args.list.now c.args.out.now.items _ _ _ _ c.in_ok-push.ensures c.in_ok-push_literal.ensures c.in_ok-push_first_stop.ensures e)
    c.push_pairs.ensures
