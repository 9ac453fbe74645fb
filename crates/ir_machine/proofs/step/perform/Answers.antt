use Rattle.std.proofs.Common.{ap, sym, length}
use Rattle.ir_code.specs.declared.code.Op.TheVariants as op
use Rattle.ir_machine.specs.Steps.{deed}
use Rattle.ir_machine.proofs.Doing.{acts}
use Rattle.ir_machine.proofs.step.perform.Goals as goal

pub returns-in-Compare : goal.returns-in-Compare
returns-in-Compare c =
    let m = c.args.machine.now in
    acts c.args.functions.now c.args.machine.now c.compare_numbers.new.machine (deed m.top.registers (length c.args.functions.now) m.memory (op.Compare c.in-Compare.into c.in-Compare.pred c.in-Compare.ty c.in-Compare.left c.in-Compare.right)) (deed m.top.registers (length c.args.functions.now) m.memory c.args.op.now) (ap (deed m.top.registers (length c.args.functions.now) m.memory) (sym c.in-Compare.is)) c.compare_numbers.result c.compare_numbers.ensures
