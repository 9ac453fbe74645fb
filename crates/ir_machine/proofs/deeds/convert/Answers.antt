use Rattle.std.proofs.Common.{◌∙◌, ap}
use Rattle.ir_memory.specs.declared.value.Value.TheVariants.{Int}
use Rattle.ir_model.specs.Deed.{converted}
use Rattle.ir_model.specs.Values.{bits_of, number_at}
use Rattle.ir_machine.specs.Steps.{input_value}
use Rattle.ir_machine.proofs.Giving.{gives}
use Rattle.ir_machine.proofs.deeds.convert.Goals as goal

pub returns : goal.returns
returns c =
    gives c.args.machine.now c.give.new.machine c.args.into c.give.result (Int c.converted.result) (Int (converted c.args.op (bits_of c.args.from) (bits_of c.args.to) (number_at c.args.from (input_value c.args.machine.now.top.registers c.args.input.now)))) (ap Int (c.converted.ensures ∙ ap (converted c.args.op (bits_of c.args.from) (bits_of c.args.to)) c.number_in-number.ensures.value)) c.give.ensures
