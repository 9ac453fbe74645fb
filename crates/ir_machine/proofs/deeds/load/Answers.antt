use Rattle.std.proofs.Common.{◌≡◌, ap, ◌∙◌, Some, []}
use Rattle.std.specs.Prelude.{Ok}
use Rattle.ir_tree.specs.Types.{is_pointer_type}
use Rattle.ir_memory.specs.Memory.{loaded}
use Rattle.ir_model.specs.Sizes.{bytes_of}
use Rattle.ir_model.specs.Values.{base_of, offset_of}
use Rattle.ir_machine.specs.declared.state.Turn.TheVariants as turn
use Rattle.ir_machine.specs.Steps.{Gives, input_value, read_as}
use Rattle.ir_machine.proofs.Giving.{does}
use Rattle.ir_machine.proofs.deeds.load.Goals as goal

pub returns-in-Ok : goal.returns-in-Ok
returns-in-Ok c =
    let memory = c.args.machine.now.memory in
    let address = input_value c.args.machine.now.top.registers c.args.address.now in
    let there = loaded memory (base_of address) (offset_of address) (bytes_of c.args.ty) (is_pointer_type c.args.ty) in
    let found : Ok c.in-Ok.value ≡ there =
    c.in-Ok.ensures.value
    ∙ (λ i. loaded memory ((c.base_of.ensures ∙ ap base_of c.value_in-address.ensures) i) ((c.offset_of.ensures ∙ ap offset_of c.value_in-address.ensures) i) (c.bytes_of.ensures.value i) (c.is_pointer.ensures i)) in
    does c.args.machine.now c.put.new.machine c.args.into turn.Goes (read_as c.args.into memory c.args.ty there) c.at_type.result (ap (λ v. Gives (Some c.args.into) v memory []) c.at_type.ensures.value ∙ ap (read_as c.args.into memory c.args.ty) found) c.put.ensures
