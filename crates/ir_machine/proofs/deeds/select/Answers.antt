use Rattle.std.proofs.Common.{◌≡◌, ◌==◌, ◌∙◌, ap, cond, sym, Bool}
use Rattle.std.proofs.lemmas.Bool.{eq-eqb, ne_eqb}
use Rattle.ir_memory.specs.declared.value.Value.{Value}
use Rattle.ir_tree.specs.declared.types.Ty.TheVariants.{I1}
use Rattle.ir_model.specs.Values.{at_type, number_at}
use Rattle.ir_machine.specs.Steps.{input_value}
use Rattle.ir_machine.proofs.Giving.{gives}
use Rattle.ir_machine.proofs.deeds.select.Goals as goal
use Rattle.ir_machine.proofs.deeds.select.Goals.{then-number_in-eq0, else-number_in-eq0}

pub returns : goal.returns
returns c =
    let no : Value = input_value c.args.machine.now.top.registers c.args.no.now in
    let yes : Value = input_value c.args.machine.now.top.registers c.args.yes.now in
    let test : Bool = number_at I1 (input_value c.args.machine.now.top.registers c.args.cond.now) == 0 in
    let same : (c.number_in.result == 0) ≡ test = ap (λ n. n == 0) c.number_in.ensures.value in
    let chosen : c.if-number_in-eq0.chosen ≡ cond test no yes =
    elim c.if-number_in-eq0.branch [
      | then-number_in-eq0 w ↦ w.chosen-is ∙ w.value_in-chosen.ensures ∙ ap (λ b. cond b no yes) (sym (eq-eqb c.number_in.result 0 w.if-number_in-eq0.true) ∙ same)
      | else-number_in-eq0 w ↦ w.chosen-is ∙ w.value_in-chosen-else-number_in-eq0.ensures ∙ ap (λ b. cond b no yes) (sym (ne_eqb c.number_in.result 0 w.if-number_in-eq0.false) ∙ same)
    ] in
    gives c.args.machine.now c.give.new.machine c.args.into c.give.result c.at_type.result (at_type c.args.ty (cond test no yes)) (c.at_type.ensures.value ∙ ap (at_type c.args.ty) chosen) c.give.ensures
