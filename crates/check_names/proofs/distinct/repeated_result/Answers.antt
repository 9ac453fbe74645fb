use Rattle.std.proofs.Common.{◌≡◌, ℕ, Bool, true, false, None, Some, length, sym, ap, ◌∙◌}
use Rattle.check_names.proofs.Blocks.{block_more, item_more, room_item, seen_along, within_few}
use Rattle.check_names.proofs.Firsts.{at_end, at_item, item_found, item_passed}
use Rattle.ir_rules.specs.Distinct.{is_new_if_any, names_before_item}
use Rattle.ir_rules.specs.Parts.{place, unless}
use Rattle.ir_rules.specs.declared.place.Place.{Place}
use Rattle.ir_tree.specs.Operands.{result_name}
use Rattle.ir_tree.specs.declared.types.Instr.{Instr}
use Rattle.spec_lists.specs.Each.{first_of}
use Rattle.check_names.proofs.distinct.repeated_result.Goals as goal

pub is_new-requires : goal.is_new-requires
is_new-requires c = record { room = room_item c.args.f.now c.args.b c.args.block.now c.loop-i.i c.loop-i.seen c.requires.few c.requires.block c.loop-i.invariant.0 }

pub item_place-requires-clause-block : goal.item_place-requires-clause-block
item_place-requires-clause-block c = within_few c.args.f.now c.args.b c.args.block.now c.requires.few c.requires.block

pub returns-then-not-branch-clause-found : goal.returns-then-not-branch-clause-found
returns-then-not-branch-clause-found c =
    let f = c.args.f.now in
    let block = c.args.block.now in
    let i = c.loop-i.i in
    let x = c.x-item.result in
    let here = at_item c.as_slice-x-items.result.now block.instrs i x c.as_slice-x-items.ensures c.loop-i-test.true c.x-item.is in
    let make = λ (n : ℕ) (y : Instr). unless (is_new_if_any (result_name y) (names_before_item f c.args.b block n)) (place c.args.k c.args.b n) in
    let old : is_new_if_any (result_name x) (names_before_item f c.args.b block i) ≡ false = sym (c.in_ok-is_new.ensures.fresh (names_before_item f c.args.b block i) c.loop-i.invariant.0) ∙ c.if-not-branch.true in
    let found : first_of (make i x) ≡ Some (place c.args.k c.args.b i) = ap (λ (t : Bool). first_of (unless t (place c.args.k c.args.b i))) old in
    ap (λ (p : Place). Some p) c.item_place.ensures
    ∙ (sym (item_found make block.instrs i x here.0 (place c.args.k c.args.b i) (ap (λ (y : Instr). first_of (make i y)) (sym here.1) ∙ found))
    ∙ c.loop-i.invariant.1)

pub loop-i-preserved : goal.loop-i-preserved
loop-i-preserved c =
    let f = c.args.f.now in
    let block = c.args.block.now in
    let i = c.loop-i.i in
    let x = c.x-item.result in
    let here = at_item c.as_slice-x-items.result.now block.instrs i x c.as_slice-x-items.ensures c.loop-i-test.true c.x-item.is in
    let make = λ (n : ℕ) (y : Instr). unless (is_new_if_any (result_name y) (names_before_item f c.args.b block n)) (place c.args.k c.args.b n) in
    let fresh : is_new_if_any (result_name x) (names_before_item f c.args.b block i) ≡ true = sym (c.in_ok-is_new.ensures.fresh (names_before_item f c.args.b block i) c.loop-i.invariant.0) ∙ c.if-not-branch.false in
    let passed : first_of (make i x) ≡ None = ap (λ (t : Bool). first_of (unless t (place c.args.k c.args.b i))) fresh in (
      seen_along c.is_new.new.seen _ _ (item_more f c.args.b block i x here.0 here.1) (c.in_ok-is_new.ensures.added (names_before_item f c.args.b block i) c.loop-i.invariant.0),
      sym (item_passed make block.instrs i x here.0 (ap (λ (y : Instr). first_of (make i y)) (sym here.1) ∙ passed)) ∙ c.loop-i.invariant.1,
    )

pub returns-clause-seen : goal.returns-clause-seen
returns-clause-seen c = λ none.
    let f = c.args.f.now in
    let block = c.args.block.now in
    let done : c.loop-i.i ≡ length block.instrs = at_end c.as_slice-x-items.result.now block.instrs c.loop-i.i c.as_slice-x-items.ensures c.loop-i-test.false c.loop-i.auto.i-end in
    seen_along c.loop-i.seen _ _ (ap (λ (n : ℕ). names_before_item f c.args.b block n) done ∙ block_more f c.args.b block c.requires.block) c.loop-i.invariant.0
