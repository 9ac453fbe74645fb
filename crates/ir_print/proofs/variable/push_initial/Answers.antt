use Rattle.std.proofs.lemmas.Result.{on_ok_weaker}
use Rattle.ir_print.proofs.Trees.{initial_pushed}
use Rattle.ir_print.proofs.variable.push_initial.Goals as goal

pub returns : goal.returns
returns c =
    on_ok_weaker c.push_init.result
    (λ e. initial_pushed c.args.external c.args.mem.now c.args.init.now c.args.out.now.items _ _ c.if-external.false c.in_ok-push_memory.ensures e)
    c.push_init.ensures
