use Rattle.std.proofs.Common.{◌≡◌, ◌∙◌, ap, pos}
use Rattle.std.specs.Prelude.{◌+ℤ◌}
use Rattle.ir_value.specs.Integer.{wrapped}
use Rattle.ir_memory.specs.declared.value.Value.TheVariants.{Pointer}
use Rattle.ir_model.specs.Deed.{moved}
use Rattle.ir_model.specs.Values.{base_of, offset_of}
use Rattle.ir_machine.specs.Steps.{distance, input_value}
use Rattle.ir_machine.proofs.Giving.{gives}
use Rattle.ir_machine.proofs.deeds.point.Goals as goal

pub returns : goal.returns
returns c =
    let registers = c.args.machine.now.top.registers in
    let address = input_value registers c.args.address.now in
    let offset : c.travel-offset.result ≡ wrapped 64 (pos (offset_of address) +ℤ distance registers c.args.indices.now) =
    c.travel-offset.ensures
    ∙ (λ i. wrapped 64 (pos ((c.offset_of.ensures ∙ ap offset_of c.value_in-address.ensures) i) +ℤ distance (c.as_slice-registers.ensures i) c.args.indices.now)) in
    let base = c.base_of-base.ensures ∙ ap base_of c.value_in-address.ensures in
    gives c.args.machine.now c.give.new.machine c.args.into c.give.result (Pointer c.base_of-base.result c.travel-offset.result) (moved address (distance registers c.args.indices.now)) (λ i. Pointer (base i) (offset i)) c.give.ensures
