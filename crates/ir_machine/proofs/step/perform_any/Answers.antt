use Rattle.std.proofs.Common.{ap, sym, ◌∙◌, length, Some, []}
use Rattle.ir_model.specs.Deed.{moved}
use Rattle.ir_code.specs.declared.code.Op.TheVariants as op
use Rattle.ir_machine.specs.Steps.{Gives, deed, distance, input_value}
use Rattle.ir_machine.proofs.Doing.{acts, acts_if}
use Rattle.ir_machine.proofs.step.perform_any.Goals as goal

pub returns-in-Compare : goal.returns-in-Compare
returns-in-Compare c =
    let m = c.args.machine.now in
    acts c.args.functions.now c.args.machine.now c.compare_numbers.new.machine (deed m.top.registers (length c.args.functions.now) m.memory (op.Compare c.in-Compare.into c.in-Compare.pred c.in-Compare.ty c.in-Compare.left c.in-Compare.right)) (deed m.top.registers (length c.args.functions.now) m.memory c.args.op.now) (ap (deed m.top.registers (length c.args.functions.now) m.memory) (sym c.in-Compare.is)) c.compare_numbers.result c.compare_numbers.ensures

pub returns-in-Convert : goal.returns-in-Convert
returns-in-Convert c =
    let m = c.args.machine.now in
    acts c.args.functions.now c.args.machine.now c.convert.new.machine (deed m.top.registers (length c.args.functions.now) m.memory (op.Convert c.in-Convert.into c.in-Convert.op c.in-Convert.from c.in-Convert.to c.in-Convert.value)) (deed m.top.registers (length c.args.functions.now) m.memory c.args.op.now) (ap (deed m.top.registers (length c.args.functions.now) m.memory) (sym c.in-Convert.is)) c.convert.result c.convert.ensures

pub returns-in-Freeze : goal.returns-in-Freeze
returns-in-Freeze c =
    let m = c.args.machine.now in
    acts c.args.functions.now c.args.machine.now c.freeze.new.machine (deed m.top.registers (length c.args.functions.now) m.memory (op.Freeze c.in-Freeze.into c.in-Freeze.ty c.in-Freeze.value)) (deed m.top.registers (length c.args.functions.now) m.memory c.args.op.now) (ap (deed m.top.registers (length c.args.functions.now) m.memory) (sym c.in-Freeze.is)) c.freeze.result c.freeze.ensures

pub returns-in-Select : goal.returns-in-Select
returns-in-Select c =
    let m = c.args.machine.now in
    acts c.args.functions.now c.args.machine.now c.select.new.machine (deed m.top.registers (length c.args.functions.now) m.memory (op.Select c.in-Select.into c.in-Select.ty c.in-Select.cond c.in-Select.yes c.in-Select.no)) (deed m.top.registers (length c.args.functions.now) m.memory c.args.op.now) (ap (deed m.top.registers (length c.args.functions.now) m.memory) (sym c.in-Select.is)) c.select.result c.select.ensures

pub returns-in-Gep : goal.returns-in-Gep
returns-in-Gep c =
    let m = c.args.machine.now in
    let address = input_value m.top.registers c.in-Gep.address in
    acts c.args.functions.now m c.point.new.machine (Gives (Some c.in-Gep.into) (moved address (distance m.top.registers c.as_slice.result.now)) m.memory []) (deed m.top.registers (length c.args.functions.now) m.memory c.args.op.now)
    (ap (λ l. Gives (Some c.in-Gep.into) (moved address (distance m.top.registers l)) m.memory []) c.as_slice.ensures ∙ ap (deed m.top.registers (length c.args.functions.now) m.memory) (sym c.in-Gep.is)) c.point.result c.point.ensures

pub returns-in-Add : goal.returns-in-Add
returns-in-Add c =
    let m = c.args.machine.now in
    acts_if c.args.functions.now m m (deed m.top.registers (length c.args.functions.now) m.memory (op.Add c.in-Add.unit c.in-Add.counter c.in-Add.step)) (deed m.top.registers (length c.args.functions.now) m.memory c.args.op.now) (ap (deed m.top.registers (length c.args.functions.now) m.memory) (sym c.in-Add.is)) c.add.result c.add.ensures

pub returns-in-Note : goal.returns-in-Note
returns-in-Note c =
    let m = c.args.machine.now in
    acts_if c.args.functions.now m m (deed m.top.registers (length c.args.functions.now) m.memory (op.Note c.in-Note.unit c.in-Note.site c.in-Note.target)) (deed m.top.registers (length c.args.functions.now) m.memory c.args.op.now) (ap (deed m.top.registers (length c.args.functions.now) m.memory) (sym c.in-Note.is)) c.note.result c.note.ensures
