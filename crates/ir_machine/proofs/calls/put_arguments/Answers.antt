use Rattle.std.proofs.Common.{◌≡◌, ◌<◌, ◌≤◌, ◌+◌, ◌∙◌, ap, arith, get_or, length, map, refl, subst, sym}
use borrow.Author.Tests.{ltb-true, ltb-false}
use Rattle.std.specs.Prelude.{slice_set}
use Rattle.std.proofs.lemmas.Option.{slice_get_read}
use Rattle.ir_tree.specs.declared.types.Ty.{Ty}
use Rattle.ir_tree.specs.declared.types.Ty.TheVariants.{I1}
use Rattle.ir_memory.specs.declared.value.Value.{Value}
use Rattle.ir_code.specs.declared.code.Input.{Input}
use Rattle.ir_machine.specs.Steps.{input_value}
use Rattle.ir_machine.proofs.Params.{Filled, argument_value, filled_more, filled_same, values_count}
use Rattle.ir_machine.proofs.calls.put_arguments.Goals as goal
use Rattle.ir_machine.proofs.calls.put_arguments.Goals.{in-Some, in_default}

pub loop-i-preserved : goal.loop-i-preserved
loop-i-preserved c =
    let f = c.args.function.now in
    let value : Ty × Input → Value = λ a. input_value c.args.caller.now a.1 in
    let vs = map value c.args.args.now in
    let items = c.as_slice-ty-items.result.now in
    let here : c.loop-i.i < length f.params = subst (λ l. c.loop-i.i < length l) c.as_slice-ty-items.ensures c.loop-i-test.true in
    let is : get_or items c.loop-i.i I1 ≡ get_or f.params c.loop-i.i I1 = ap (λ l. get_or l c.loop-i.i I1) c.as_slice-ty-items.ensures in
    elim c.match-get.branch [
      | in-Some w ↦
          let q = w.in-Some.ensures.lookup in
          let inside : c.loop-i.i < length c.args.args.now = omega (arith, ltb-true c.loop-i.i (length c.args.args.now) (sym q.0)) in
          let found = argument_value value c.args.args.now c.loop-i.i w.in-Some.arg.now (slice_get_read c.args.args.now (length c.args.args.now) c.loop-i.i w.in-Some.arg.now refl inside q.1) in
          filled_more f vs c.loop-i.i c.loop-i.registers c.loop-i.invariant (get_or items c.loop-i.i I1) I1 here is (value w.in-Some.arg.now) found c.match-get.registers
          (w.registers-is ∙ w.assign.ensures ∙ ap (slice_set c.loop-i.registers c.loop-i.i) w.typed_value_of.ensures)
      | in_default w ↦
          let q = w.in_default.ensures.lookup in
          let past : length c.args.args.now ≤ c.loop-i.i = omega (arith, ltb-false c.loop-i.i (length c.args.args.now) (sym q.0)) in
          let none : length vs ≤ c.loop-i.i = subst (λ n. n ≤ c.loop-i.i) (sym (values_count value c.args.args.now)) past in
          subst (λ rs. Filled f vs (c.loop-i.i + 1) rs) (sym w.registers-is) (filled_same f vs c.loop-i.i c.loop-i.registers c.loop-i.invariant (get_or items c.loop-i.i I1) I1 here is none)
    ]
