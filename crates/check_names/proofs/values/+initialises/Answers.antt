use Rattle.std.proofs.Common.{◌≡◌, ◌&&◌, List, Bool, true, false, length, refl, sym, ap, ◌∙◌}
use Rattle.std.specs.List.{list_all}
use Rattle.check_names.proofs.Rows.{all_broken, all_ended, list_initialises}
use Rattle.ir_rules.specs.Initialisers.{has_length, initialises}
use Rattle.ir_rules.specs.Sizes.{element_of}
use Rattle.ir_tree.specs.declared.types.Init.{Init}
use Rattle.check_names.proofs.values.+initialises.Goals as goal

and_false : (b : Bool) → (b && false) ≡ false
and_false true = refl
and_false false = refl

pub returns-then-not-initialises : goal.returns-then-not-initialises
returns-then-not-initialises t c =
    let mem = c.args.mem.now in
    let fails : initialises c.element_of-element.result.now c.item-item.result ≡ false = sym c.initialises.ensures ∙ c.if-not-initialises.true in
    let all : list_all (initialises (element_of mem)) c.in-List.inits ≡ false =
    (λ j. list_all (initialises (sym c.element_of-element.ensures j)) (sym c.as_slice-items.ensures j))
    ∙ all_broken (initialises c.element_of-element.result.now) c.as_slice-items.result.now c.loop-item.item-index c.item-item.result c.loop-item-test.true c.item-item.is fails in
    sym (ap (λ (i : Init). initialises mem i) c.in-List.is ∙ (list_initialises mem c.in-List.inits ∙ (ap (λ (b : Bool). has_length (length c.in-List.inits) mem && b) all ∙ and_false (has_length (length c.in-List.inits) mem))))

pub returns-after-loop-item : goal.returns-after-loop-item
returns-after-loop-item t c =
    let mem = c.args.mem.now in
    let counts : has_length (length c.in-List.inits) mem ≡ true =
    ap (λ (is : List Init). has_length (length is) mem) (sym c.as_slice-items.ensures) ∙ (sym c.has_length.ensures ∙ c.if-not-has_length.false) in
    let all : list_all (initialises (element_of mem)) c.in-List.inits ≡ true =
    (λ j. list_all (initialises (sym c.element_of-element.ensures j)) (sym c.as_slice-items.ensures j))
    ∙ all_ended (initialises c.element_of-element.result.now) c.as_slice-items.result.now c.loop-item.item-index c.loop-item.invariant c.loop-item-test.false c.loop-item.auto.item-index-end in
    sym (ap (λ (i : Init). initialises mem i) c.in-List.is ∙ (list_initialises mem c.in-List.inits ∙ (λ j. counts j && all j)))
