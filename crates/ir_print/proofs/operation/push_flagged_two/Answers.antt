use Rattle.std.proofs.lemmas.Result.{on_ok_weaker}
use Rattle.canonical_text.specs.Instructions.{two_pieces}
use Rattle.ir_print.proofs.Pushed.{flagged_pushed}
use Rattle.ir_print.proofs.operation.push_flagged_two.Goals as goal

pub returns : goal.returns
returns c =
    on_ok_weaker c.push_two.result
    (λ e. flagged_pushed c.args.flags (two_pieces c.args.ty c.args.left.now c.args.right.now) c.args.out.now.items _ _ c.in_ok-push_flags.ensures e)
    c.push_two.ensures
