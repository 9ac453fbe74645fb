use Rattle.lower_units.proofs.Gathering.{instrs_further}
use Rattle.lower_units.specs.Table.{told_at}
use Rattle.lower_units.proofs.table.Table.add_instrs.Goals as goal

pub loop-instr-preserved : goal.loop-instr-preserved
loop-instr-preserved c q =
    instrs_further q (told_at c.args.self.now q) (told_at c.loop-instr.self q) (told_at c.add_instr.new.self q) c.args.instrs.now c.loop-instr.instr-index c.instr-item.result c.loop-instr-test.true c.instr-item.is (c.loop-instr.invariant q) (c.in_ok-add_instr.ensures q)
