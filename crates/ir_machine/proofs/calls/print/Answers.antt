use Rattle.std.proofs.Common.{Bool, refl, subst}
use Rattle.std.specs.Prelude.{IfOk}
use Rattle.ir_model.specs.Step.{line_of}
use Rattle.ir_machine.specs.Steps.{Prints}
use Rattle.ir_machine.specs.declared.state.Machine.{Machine}
use Rattle.ir_machine.proofs.Printing.{put_fits}
use Rattle.ir_machine.proofs.calls.print.Goals as goal

pub returns-in-Ok-true : goal.returns-in-Ok-true
returns-in-Ok-true c =
    let n : Machine = record c.args.machine.now { printed = c.print_line.new.printed } in
    let P : Bool → Type 0 = λ b. Prints (line_of c.args.value) c.args.machine.now.printed.items b c.print_line.new.printed.items in
    put_fits c.args.machine.now n (line_of c.args.value) refl refl refl (subst P c.in-Ok-true.field-0-test (subst (λ r. IfOk r P) c.in-Ok-true.is c.print_line.ensures))
