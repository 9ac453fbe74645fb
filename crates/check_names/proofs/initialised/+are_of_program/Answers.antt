use Rattle.std.proofs.Common.{◌≡◌, List, false, sym, ap, ◌∙◌}
use Rattle.std.specs.List.{list_all}
use Rattle.check_names.proofs.Rows.{all_broken, all_ended, list_names}
use Rattle.ir_rules.specs.Initialisers.{names_in}
use Rattle.ir_rules.specs.Scopes.{is_program_symbol}
use Rattle.ir_tree.specs.declared.types.Init.{Init}
use Rattle.check_names.proofs.initialised.+are_of_program.Goals as goal

pub returns-then-not-are_of_program : goal.returns-then-not-are_of_program
returns-then-not-are_of_program t c =
    let test = is_program_symbol c.args.module.now in
    let all = λ (i : Init). list_all test (names_in i) in
    let fails : all c.item-item.result ≡ false = sym c.are_of_program.ensures ∙ c.if-not-are_of_program.true in
    sym (ap all c.in-List.is ∙ (list_names test c.in-List.inits ∙ (ap (λ (is : List Init). list_all all is) (sym c.as_slice-items.ensures)
    ∙ all_broken all c.as_slice-items.result.now c.loop-item.item-index c.item-item.result c.loop-item-test.true c.item-item.is fails)))

pub returns-after-loop-item : goal.returns-after-loop-item
returns-after-loop-item t c =
    let test = is_program_symbol c.args.module.now in
    let all = λ (i : Init). list_all test (names_in i) in
    sym (ap all c.in-List.is ∙ (list_names test c.in-List.inits ∙ (ap (λ (is : List Init). list_all all is) (sym c.as_slice-items.ensures)
    ∙ all_ended all c.as_slice-items.result.now c.loop-item.item-index c.loop-item.invariant c.loop-item-test.false c.loop-item.auto.item-index-end)))
