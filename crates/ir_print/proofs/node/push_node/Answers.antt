use Rattle.std.proofs.lemmas.Result.{on_ok_weaker}
use Rattle.ir_print.proofs.Pushed.{node_put}
use Rattle.ir_print.proofs.node.push_node.Goals as goal

pub returns : goal.returns
returns c =
    on_ok_weaker c.push.result
    (λ e. node_put c.args.number c.args.note.now c.args.out.now.items _ _ _ c.in_ok-push_node_head.ensures c.in_ok-push_note.ensures e)
    c.push.ensures
