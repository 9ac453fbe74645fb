use Rattle.std.proofs.Common.{◌≡◌, ◌++◌, ℕ, List, Option, Some, codes, sym, ap, ◌∙◌}
use Rattle.std.specs.List.{find}
use Rattle.check_names.proofs.Found.{variable_once}
use Rattle.check_names.proofs.UnitParts.{any_by_name, any_by_none, told_as}
use Rattle.ir_rules.specs.Initialisers.{has_hash}
use Rattle.ir_rules.specs.Units.{text_of}
use Rattle.ir_tree.specs.Names.{same}
use Rattle.ir_tree.specs.declared.types.Global1.{Global1}
use Rattle.check_names.proofs.units.tells_unit.Goals as goal

pub returns-in-Some : goal.returns-in-Some
returns-in-Some c =
    let m = c.args.module.now in
    let name = c.as_slice-2.result.now in
    let is : name ≡ codes "__profn_" ++ c.args.unit.now = c.as_slice-2.ensures.value ∙ (c.in_ok-name.ensures ∙ ap (λ (front : List ℕ). front ++ c.args.unit.now) c.as_slice.ensures) in
    let test = λ (g : Global1). has_hash c.args.hash (text_of g) in
    let found : Some c.in-Some.g.now ≡ find (λ x. same name x.name) m.globals = c.in-Some.ensures in
    told_as m c.args.unit.now c.args.hash c.args.counters c.has_hash.result (sym c.is_counter_total.ensures ∙ c.if-not-is_counter_total.false)
    (any_by_name m (codes "__profn_") c.args.unit.now name test is c.in-Some.g.now c.has_hash.result (variable_once m name (c.requires.once name)) found (c.has_hash.ensures ∙ ap (λ (text : Option (List ℕ)). has_hash c.args.hash text) c.text_of.ensures))

pub returns : goal.returns
returns c =
    let m = c.args.module.now in
    let name = c.as_slice-2.result.now in
    let is : name ≡ codes "__profn_" ++ c.args.unit.now = c.as_slice-2.ensures.value ∙ (c.in_ok-name.ensures ∙ ap (λ (front : List ℕ). front ++ c.args.unit.now) c.as_slice.ensures) in
    told_as m c.args.unit.now c.args.hash c.args.counters _ (sym c.is_counter_total.ensures ∙ c.if-not-is_counter_total.false)
    (any_by_none m (codes "__profn_") c.args.unit.now name (λ (g : Global1). has_hash c.args.hash (text_of g)) is c.in-None.ensures)
