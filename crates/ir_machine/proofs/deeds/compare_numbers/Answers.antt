use Rattle.std.proofs.Common.{◌≡◌, ◌∙◌, ap, cond}
use Rattle.ir_value.specs.Operators.{compare_of}
use Rattle.ir_memory.specs.declared.value.Value.TheVariants.{Int}
use Rattle.ir_model.specs.Values.{bits_of, number_at}
use Rattle.ir_machine.specs.Steps.{input_value}
use Rattle.ir_machine.proofs.Giving.{byte_is, gives}
use Rattle.ir_machine.proofs.deeds.compare_numbers.Goals as goal

pub returns : goal.returns
returns c =
    let there = compare_of c.args.pred (bits_of c.args.ty) (number_at c.args.ty (input_value c.args.machine.now.top.registers c.args.left.now)) (number_at c.args.ty (input_value c.args.machine.now.top.registers c.args.right.now)) in
    let holds : c.compare-holds.result ≡ there =
    c.compare-holds.ensures ∙ (λ i. compare_of c.args.pred (c.bits_of.ensures.value i) (c.number_in-left.ensures.value i) (c.number_in-right.ensures.value i)) in
    gives c.args.machine.now c.give.new.machine c.args.into c.give.result (Int c.from.result) (Int (cond there 1 0)) (ap Int (byte_is c.from.result c.compare-holds.result there c.from.ensures holds)) c.give.ensures
