use Rattle.std.proofs.Common.{◌≡◌, ◌<◌, ◌≤◌, ◌-◌, ◌∙◌, ◌++◌, take, ◌∷◌, ◌+◌, List, [], ap, arith, drop, length, refl, subst, get_or, sym}
use borrow.Author.Tests.{ltb-true, ltb-false}
use Rattle.std.specs.Prelude.{replicate}
use Rattle.std.proofs.lemmas.Option.{slice_get_read}
use Rattle.ir_memory.specs.declared.value.Value.{Value}
use Rattle.ir_machine.specs.Steps.{arguments}
use Rattle.ir_memory.specs.declared.value.Value.TheVariants.{Int}
use Rattle.ir_tree.specs.declared.types.Ty.TheVariants.{I1}
use Rattle.ir_machine.proofs.Params.{argument_more, argument_none, registers_are}
use Rattle.ir_machine.proofs.calls.first_registers.Goals as goal
use Rattle.ir_machine.proofs.calls.first_registers.Goals.{in-Some+in_ok-push, in_default}

pub loop-i-preserved : goal.loop-i-preserved
loop-i-preserved c =
    let items = c.as_slice-ty-items.result.now in
    let params = c.args.function.now.params in
    let here : c.loop-i.i < length params = subst (λ l. c.loop-i.i < length l) c.as_slice-ty-items.ensures c.loop-i-test.true in
    let is : get_or items c.loop-i.i I1 ≡ get_or params c.loop-i.i I1 = ap (λ l. get_or l c.loop-i.i I1) c.as_slice-ty-items.ensures in
    elim c.match-get.branch [
      | in-Some+in_ok-push w ↦
          let q = w.in-Some.ensures.lookup in
          let inside : c.loop-i.i < length c.args.values.now = omega (arith, ltb-true c.loop-i.i (length c.args.values.now) (sym q.0)) in
          argument_more params c.loop-i.i (get_or items c.loop-i.i I1) I1 here is c.args.values.now c.loop-i.registers.items c.match-get.registers.items w.in-Some.value.now (slice_get_read c.args.values.now (length c.args.values.now) c.loop-i.i w.in-Some.value.now refl inside q.1)
          ((λ i. (w.registers-is i).items) ∙ w.in_ok-push.ensures.items ∙ ap (λ v. c.loop-i.registers.items ++ v ∷ []) w.at_type.ensures.value)
          ∙ c.loop-i.invariant
      | in_default w ↦
          let q = w.in_default.ensures.lookup in
          let past : length c.args.values.now ≤ c.loop-i.i = omega (arith, ltb-false c.loop-i.i (length c.args.values.now) (sym q.0)) in
          ap (λ (r : List Value). r ++ arguments (drop (c.loop-i.i + 1) params) (drop (c.loop-i.i + 1) c.args.values.now)) (λ i. (w.registers-is i).items)
          ∙ argument_none params c.loop-i.i (get_or items c.loop-i.i I1) I1 here is c.args.values.now c.loop-i.registers.items past
          ∙ c.loop-i.invariant
    ]

pub returns : goal.returns
returns c =
    let past : length c.args.function.now.params ≤ c.loop-i.i = subst (λ l. length l ≤ c.loop-i.i) c.as_slice-ty-items.ensures c.loop-i-test.false in
    registers_are c.args.function.now c.args.values.now c.loop-i.registers.items c.of.result c.loop-i.i past c.loop-i.invariant (c.of.ensures ∙ c.in_ok-resize.ensures.items ∙ ap (λ n. take c.args.function.now.registers c.loop-i.registers.items ++ replicate (c.args.function.now.registers - n) (Int 0)) c.loop-i.registers.ok.0)
