use Rattle.ir_print.proofs.Pushed.{node_pushed}
use Rattle.ir_print.proofs.node.push_node_lines.Goals as goal

pub loop-i-preserved : goal.loop-i-preserved
loop-i-preserved c =
    node_pushed c.args.notes.now c.loop-i.i c.index-notes-i.result c.index-notes-i.result _ _ _ c.loop-i-test.true c.index-notes-i.is c.in_ok-push_node.ensures c.loop-i.invariant
