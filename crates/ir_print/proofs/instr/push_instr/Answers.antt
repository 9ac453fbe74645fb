use Rattle.std.proofs.lemmas.Result.{on_ok_weaker}
use Rattle.ir_print.proofs.Pushed.{count_printed}
use Rattle.ir_print.proofs.instr.push_instr.Goals as goal

pub returns-in-Count : goal.returns-in-Count
returns-in-Count c =
    on_ok_weaker c.push_count.result
    (λ e. count_printed c.args.nodes.now c.args.instr.now c.in-Count.symbol c.in-Count.size c.in-Count.index c.in-Count.step c.args.out.now.items _ c.in-Count.is e)
    c.push_count.ensures
