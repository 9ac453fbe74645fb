use Rattle.std.proofs.Common.{◌∙◌, ap}
use Rattle.ir_model.specs.Values.{at_type}
use Rattle.ir_machine.specs.Steps.{input_value}
use Rattle.ir_machine.proofs.Giving.{gives}
use Rattle.ir_machine.proofs.deeds.freeze.Goals as goal

pub returns : goal.returns
returns c =
    gives c.args.machine.now c.give.new.machine c.args.into c.give.result c.typed_value_of-value.result (at_type c.args.ty (input_value c.args.machine.now.top.registers c.args.input.now)) (c.typed_value_of-value.ensures ∙ ap (λ rs. at_type c.args.ty (input_value rs c.args.input.now)) c.as_slice.ensures) c.give.ensures
