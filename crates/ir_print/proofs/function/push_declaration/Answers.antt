use Rattle.std.proofs.lemmas.Result.{on_ok_weaker}
use Rattle.ir_print.proofs.Pushed.{declaration_pushed}
use Rattle.ir_print.proofs.function.push_declaration.Goals as goal

pub returns : goal.returns
returns c =
    on_ok_weaker c.push_types_line.result
    (λ e. declaration_pushed c.args.function.now c.as_slice.result.now c.args.out.now.items _ _ _ c.as_slice.ensures c.in_ok-push.ensures c.in_ok-push_signature.ensures e)
    c.push_types_line.ensures
