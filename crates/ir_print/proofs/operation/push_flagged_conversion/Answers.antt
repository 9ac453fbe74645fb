use Rattle.std.proofs.lemmas.Result.{on_ok_weaker}
use Rattle.canonical_text.specs.Instructions.{conversion_pieces}
use Rattle.ir_print.proofs.Pushed.{flagged_pushed}
use Rattle.ir_print.proofs.operation.push_flagged_conversion.Goals as goal

pub returns : goal.returns
returns c =
    on_ok_weaker c.push_conversion.result
    (λ e. flagged_pushed c.args.flags (conversion_pieces c.args.from c.args.value.now c.args.to) c.args.out.now.items _ _ c.in_ok-push_flags.ensures e)
    c.push_conversion.ensures
