use Rattle.std.proofs.Common.{◌≡◌, ◌<◌, ◌∙◌, ap, sym, subst}
use Rattle.std.specs.Prelude.{slice_get}
use Rattle.ir_machine.specs.Slots.{slot_at, slot_of, edges_of_all}
use Rattle.ir_tree.specs.Functions.{numbered}
use Rattle.ir_machine.proofs.Numbers.{slot_is, slot_inside}
use Rattle.ir_machine.proofs.program.Code.slot.Goals as goal

pub returns-clause-place : goal.returns-clause-place
returns-clause-place c =
    c.slot_in_all.ensures ∙ ap (λ l. slot_at (slice_get l c.args.function) c.args.block c.args.position) c.slots.ensures
    ∙ slot_is (numbered c.args.self.now.functions) c.args.function c.args.block c.args.position c.requires.edge

pub returns-clause-inside : goal.returns-clause-inside
returns-clause-inside c =
    let e : c.slot_in_all.result ≡ slot_of c.args.self.now c.args.function c.args.block c.args.position =
    c.slot_in_all.ensures ∙ ap (λ l. slot_at (slice_get l c.args.function) c.args.block c.args.position) c.slots.ensures
    ∙ slot_is (numbered c.args.self.now.functions) c.args.function c.args.block c.args.position c.requires.edge in
    subst (λ n. n < edges_of_all c.args.self.now) (sym e) (slot_inside (numbered c.args.self.now.functions) c.args.function c.args.block c.args.position c.requires.edge)
