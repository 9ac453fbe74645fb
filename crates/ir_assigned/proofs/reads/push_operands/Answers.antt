use Rattle.ir_assigned.proofs.OneMore.{uses_more}
use Rattle.ir_tree.specs.FunctionNames.{indexed}
use Rattle.ir_tree.specs.Operands.{operands}
use Rattle.ir_assigned.proofs.reads.push_operands.Goals as goal

pub loop-place-preserved : goal.loop-place-preserved
loop-place-preserved c = uses_more (indexed c.args.known.now) c.args.b c.args.i (operands c.args.instr.now) c.loop-place.place c.args.reads.now.items c.loop-place.reads.items c.push_found.new.reads.items _ c.operand.ensures c.loop-place.invariant c.in_ok-push_found.ensures
