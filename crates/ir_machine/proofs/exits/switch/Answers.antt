use Rattle.std.proofs.Common.{◌==◌, ◌∙◌, ap}
use Rattle.std.specs.Prelude.{position}
use Rattle.ir_model.specs.Values.{number_at}
use Rattle.ir_machine.specs.Steps.{input_value}
use Rattle.ir_machine.proofs.Doing.{walks_by}
use Rattle.ir_machine.proofs.exits.switch.Goals as goal

pub returns : goal.returns
returns c =
    let regs = c.args.machine.now.top.registers in
    walks_by c.walk_case.result c.args.machine.now c.walk_case.new.machine c.args.edges.now c.place.result (position (λ n. n == number_at c.args.ty (input_value regs c.args.value.now)) c.args.cases.now)
    (c.place.ensures ∙ ap (λ v. position (λ n. n == v) c.args.cases.now) (c.number_of-number.ensures.value ∙ ap (λ rs. number_at c.args.ty (input_value rs c.args.value.now)) c.as_slice.ensures)) c.walk_case.ensures
