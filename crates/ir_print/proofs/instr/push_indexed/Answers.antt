use Rattle.std.proofs.lemmas.Result.{on_ok_weaker}
use Rattle.ir_print.proofs.Pushed.{indexed_pushed}
use Rattle.ir_print.proofs.instr.push_indexed.Goals as goal

pub returns : goal.returns
returns c =
    on_ok_weaker c.push_address.result
    (λ e. indexed_pushed c.args.mem.now c.args.address.now c.args.indices.now c.args.out.now.items _ _ c.in_ok-push_memory.ensures e)
    c.push_address.ensures
