use Rattle.std.proofs.lemmas.Result.{on_ok_weaker}
use Rattle.ir_print.proofs.Pushed.{kind_pushed}
use Rattle.ir_print.proofs.variable.push_kind.Goals as goal

pub returns : goal.returns
returns c =
    on_ok_weaker c.push_variable_word.result
    (λ e. kind_pushed c.args.external c.args.constant c.args.out.now.items _ _ c.in_ok-push_external.ensures e)
    c.push_variable_word.ensures
