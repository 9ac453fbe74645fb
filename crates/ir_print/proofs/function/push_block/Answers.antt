use Rattle.std.proofs.lemmas.Result.{on_ok_weaker}
use Rattle.ir_print.proofs.Pushed.{block_pushed}
use Rattle.ir_print.proofs.function.push_block.Goals as goal

pub returns : goal.returns
returns c =
    on_ok_weaker c.push_term.result
    (λ e. block_pushed c.args.nodes.now c.args.block.now c.as_slice.result.now c.args.out.now.items _ _ _ c.as_slice.ensures c.in_ok-push_label_line.ensures c.in_ok-push_instrs.ensures e)
    c.push_term.ensures
