use Rattle.std.proofs.Common.{◌≡◌, ◌&&◌, ℕ, List, Bool, true, false, None, Some, length, refl, sym, ap, ◌∙◌}
use Rattle.check_names.proofs.Firsts.{at_end, at_item, each_done, item_found, item_passed}
use Rattle.check_names.proofs.Outside.{initialised_places}
use Rattle.check_names.proofs.UnitParts.{shown_at}
use Rattle.ir_rules.specs.Initialisers.{initialisers, is_initialised, is_unit_well}
use Rattle.ir_rules.specs.Parts.{place, unless}
use Rattle.ir_rules.specs.declared.place.Place.{Place}
use Rattle.ir_tree.specs.declared.types.Global1.{Global1}
use Rattle.spec_lists.specs.Each.{first_of}
use Rattle.check_names.proofs.initialised.ill_initialised.Goals as goal

and_false : (b : Bool) → (b && false) ≡ false
and_false true = refl
and_false false = refl

pub is_unit_well-requires-clause-place : goal.is_unit_well-requires-clause-place
is_unit_well-requires-clause-place c = shown_at c.as_slice-g-items.result.now c.args.module.now.globals c.loop-n.n c.g-item.result c.as_slice-g-items.ensures c.loop-n-test.true c.g-item.is

pub returns-then-not-is_initialised : goal.returns-then-not-is_initialised
returns-then-not-is_initialised c =
    let m = c.args.module.now in
    let n = c.loop-n.n in
    let g = c.g-item.result in
    let here = at_item c.as_slice-g-items.result.now m.globals n g c.as_slice-g-items.ensures c.loop-n-test.true c.g-item.is in
    let make = λ (i : ℕ) (v : Global1). unless ((initialisers m).global i v) (place 0 0 i) in
    let fails : is_initialised m g ≡ false = sym c.is_initialised.ensures ∙ c.if-not-is_initialised.true in
    let found : first_of (make n g) ≡ Some (place 0 0 n) = ap (λ (b : Bool). first_of (unless (b && is_unit_well m n g) (place 0 0 n))) fails in
    ap (λ (p : Place). Some p) c.variable_place.ensures
    ∙ (sym (item_found make m.globals n g here.0 (place 0 0 n) (ap (λ (v : Global1). first_of (make n v)) (sym here.1) ∙ found))
    ∙ (c.loop-n.invariant.1 ∙ ap (λ (ps : List Place). first_of ps) (sym (initialised_places m))))

pub returns-then-not-branch : goal.returns-then-not-branch
returns-then-not-branch c =
    let m = c.args.module.now in
    let n = c.loop-n.n in
    let g = c.g-item.result in
    let here = at_item c.as_slice-g-items.result.now m.globals n g c.as_slice-g-items.ensures c.loop-n-test.true c.g-item.is in
    let make = λ (i : ℕ) (v : Global1). unless ((initialisers m).global i v) (place 0 0 i) in
    let fails : is_unit_well m n g ≡ false = sym c.in_ok-is_unit_well.ensures.kept ∙ c.if-not-branch.true in
    let found : first_of (make n g) ≡ Some (place 0 0 n) = ap (λ (b : Bool). first_of (unless (is_initialised m g && b) (place 0 0 n))) fails ∙ ap (λ (b : Bool). first_of (unless b (place 0 0 n))) (and_false (is_initialised m g)) in
    ap (λ (p : Place). Some p) c.variable_place-then-not-branch.ensures
    ∙ (sym (item_found make m.globals n g here.0 (place 0 0 n) (ap (λ (v : Global1). first_of (make n v)) (sym here.1) ∙ found))
    ∙ (c.loop-n.invariant.1 ∙ ap (λ (ps : List Place). first_of ps) (sym (initialised_places m))))

pub loop-n-preserved : goal.loop-n-preserved
loop-n-preserved c =
    let m = c.args.module.now in
    let n = c.loop-n.n in
    let g = c.g-item.result in
    let here = at_item c.as_slice-g-items.result.now m.globals n g c.as_slice-g-items.ensures c.loop-n-test.true c.g-item.is in
    let make = λ (i : ℕ) (v : Global1). unless ((initialisers m).global i v) (place 0 0 i) in
    let first : is_initialised m g ≡ true = sym c.is_initialised.ensures ∙ c.if-not-is_initialised.false in
    let second : is_unit_well m n g ≡ true = sym c.in_ok-is_unit_well.ensures.kept ∙ c.if-not-branch.false in
    let passed : first_of (make n g) ≡ None = (λ j. first_of (unless (first j && second j) (place 0 0 n))) in (
      c.in_ok-is_unit_well.ensures.seen c.if-not-branch.false,
      sym (item_passed make m.globals n g here.0 (ap (λ (v : Global1). first_of (make n v)) (sym here.1) ∙ passed)) ∙ c.loop-n.invariant.1,
    )

pub returns : goal.returns
returns c =
    let m = c.args.module.now in
    let make = λ (i : ℕ) (v : Global1). unless ((initialisers m).global i v) (place 0 0 i) in
    let done : c.loop-n.n ≡ length m.globals = at_end c.as_slice-g-items.result.now m.globals c.loop-n.n c.as_slice-g-items.ensures c.loop-n-test.false c.loop-n.auto.n-end in
    sym (each_done make m.globals c.loop-n.n done) ∙ (c.loop-n.invariant.1 ∙ ap (λ (ps : List Place). first_of ps) (sym (initialised_places m)))
