use Rattle.std.proofs.Common.{◌≡◌, List, Some, length, sym, ap, ◌∙◌}
use Rattle.check_names.proofs.Fewness.{few_at}
use Rattle.check_names.proofs.Firsts.{at_end, at_item, each_done, item_found}
use Rattle.check_names.proofs.Outside.{distinct_places}
use Rattle.ir_rules.specs.Distinct.{distinct}
use Rattle.ir_rules.specs.Parts.{function_places}
use Rattle.ir_rules.specs.declared.place.Place.{Place}
use Rattle.ir_tree.specs.declared.types.Function.{Function}
use Rattle.spec_lists.specs.Each.{first_of}
use Rattle.check_names.proofs.distinct.repeated.Goals as goal

pub repeated_in-requires-clause-few : goal.repeated_in-requires-clause-few
repeated_in-requires-clause-few c =
    let here = at_item c.as_slice-f-items.result.now c.args.module.now.functions c.loop-k.k c.f-item.result c.as_slice-f-items.ensures c.loop-k-test.true c.f-item.is in
    few_at c.args.module.now c.requires.few c.loop-k.k c.f-item.result here.0 here.1

pub returns-in-Some : goal.returns-in-Some
returns-in-Some c =
    let m = c.args.module.now in
    let here = at_item c.as_slice-f-items.result.now m.functions c.loop-k.k c.f-item.result c.as_slice-f-items.ensures c.loop-k-test.true c.f-item.is in
    let found : first_of (function_places distinct c.loop-k.k c.f-item.result) ≡ Some c.in-Some.at = sym c.in_ok-at.ensures ∙ c.in-Some.is in
    sym (item_found (function_places distinct) m.functions c.loop-k.k c.f-item.result here.0 c.in-Some.at (ap (λ (f : Function). first_of (function_places distinct c.loop-k.k f)) (sym here.1) ∙ found))
    ∙ (c.loop-k.invariant ∙ ap (λ (ps : List Place). first_of ps) (sym (distinct_places m)))

pub returns : goal.returns
returns c =
    let m = c.args.module.now in
    let done : c.loop-k.k ≡ length m.functions = at_end c.as_slice-f-items.result.now m.functions c.loop-k.k c.as_slice-f-items.ensures c.loop-k-test.false c.loop-k.auto.k-end in
    sym (each_done (function_places distinct) m.functions c.loop-k.k done) ∙ (c.loop-k.invariant ∙ ap (λ (ps : List Place). first_of ps) (sym (distinct_places m)))
