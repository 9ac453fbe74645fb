use Rattle.std.proofs.Common.{◌∙◌}
use Rattle.ir_value.specs.Integer.{signed_of, wrapped}
use Rattle.ir_tree.specs.declared.types.Ty.TheVariants.{I1}
use Rattle.ir_code.specs.declared.code.Input.TheVariants.{Number}
use Rattle.ir_code.specs.declared.code.Scaled.{Scaled}
use Rattle.ir_machine.proofs.Giving.{travels}
use Rattle.ir_machine.proofs.deeds.travel.Goals as goal

pub loop-one-preserved : goal.loop-one-preserved
loop-one-preserved c =
    let d : Scaled = record { ty = I1; index = Number 0; size = 0 } in
    travels c.args.registers.now c.args.indices.now c.loop-one.one-index d c.loop-one.offset c.convert_signed-index.result c.loop-one-test.true
    (c.convert_signed-index.ensures.value ∙ (λ i. wrapped 64 (signed_of (c.bits_of.ensures.value i) (c.number_of-number.ensures.value i))))
    ∙ c.loop-one.invariant
