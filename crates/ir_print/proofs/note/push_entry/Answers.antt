use Rattle.std.proofs.lemmas.Result.{on_ok_weaker}
use Rattle.ir_print.proofs.Pushed.{entry_pushed}
use Rattle.ir_print.proofs.note.push_entry.Goals as goal

pub returns : goal.returns
returns c =
    on_ok_weaker c.push-2.result
    (λ e. entry_pushed c.args.count c.args.out.now.items _ _ _ c.in_ok-push.ensures c.in_ok-push_literal.ensures e)
    c.push-2.ensures
