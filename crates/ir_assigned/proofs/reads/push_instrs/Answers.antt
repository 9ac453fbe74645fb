use Rattle.ir_assigned.specs.Reads.{instr_reads}
use Rattle.ir_tree.specs.FunctionNames.{indexed}
use Rattle.spec_lists.proofs.Each.{appended}
use Rattle.ir_assigned.proofs.reads.push_instrs.Goals as goal

pub loop-i-preserved : goal.loop-i-preserved
loop-i-preserved c = appended (instr_reads (indexed c.args.known.now) c.args.b) c.args.reads.now.items c.loop-i.reads.items c.push_instr.new.reads.items c.args.instrs.now c.loop-i.i c.index-instrs-i.result c.loop-i-test.true c.index-instrs-i.is c.loop-i.invariant c.in_ok-push_instr.ensures
