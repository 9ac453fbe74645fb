use Rattle.std.proofs.lemmas.Result.{on_ok_weaker}
use Rattle.ir_print.proofs.Trees.{array_pushed}
use Rattle.ir_print.proofs.memory.+push_memory.Goals as goal

pub returns-in_ok-push_memory-in-Array : goal.returns-in_ok-push_memory-in-Array
returns-in_ok-push_memory-in-Array t c =
    on_ok_weaker c.push_stop-in-Array.result
    (λ e. array_pushed c.args.mem.now c.in-Array.count c.in-Array.element c.get.result.now c.args.stop c.args.out.now.items _ _ _ c.in-Array.is c.get.ensures c.in_ok-push_count-in-Array.ensures c.in_ok-push_memory-in-Array.ensures e)
    c.push_stop-in-Array.ensures
