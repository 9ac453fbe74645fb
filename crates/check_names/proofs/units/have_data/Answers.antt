use Rattle.std.proofs.Common.{◌≡◌, ◌++◌, ◌&&◌, ℕ, List, Some, codes, ap, ◌∙◌}
use Rattle.std.specs.List.{find, list_any}
use Rattle.std.proofs.lemmas.Result.{IfOk-weaker}
use Rattle.check_names.proofs.Found.{variable_once}
use Rattle.check_names.proofs.UnitParts.{any_by_name, any_by_none}
use Rattle.ir_rules.specs.Initialisers.{tells_counters}
use Rattle.ir_rules.specs.Units.{data_of}
use Rattle.ir_tree.specs.Names.{same}
use Rattle.ir_tree.specs.declared.types.Global1.{Global1}
use Rattle.check_names.proofs.units.have_data.Goals as goal

pub returns-in-Some : goal.returns-in-Some
returns-in-Some c =
    let m = c.args.module.now in
    let unit = c.args.unit.now in
    let name = c.as_slice-2.result.now in
    let is : name ≡ codes "__profd_" ++ unit = c.as_slice-2.ensures.value ∙ (c.in_ok-name.ensures ∙ ap (λ (front : List ℕ). front ++ unit) c.as_slice.ensures) in
    let test = λ (g : Global1). tells_counters m unit c.args.count (data_of g) in
    let found : Some c.in-Some.«data».now ≡ find (λ x. same name x.name) m.globals = c.in-Some.ensures in
    IfOk-weaker c.tell_counters.result (λ kept. kept ≡ test c.in-Some.«data».now) (λ kept. kept ≡ list_any (λ g. same (codes "__profd_" ++ unit) g.name && test g) m.globals)
    (λ kept e. any_by_name m (codes "__profd_") unit name test is c.in-Some.«data».now kept (variable_once m name (c.requires.once name)) found e) c.tell_counters.ensures

pub returns : goal.returns
returns c =
    let m = c.args.module.now in
    let unit = c.args.unit.now in
    let name = c.as_slice-2.result.now in
    let is : name ≡ codes "__profd_" ++ unit = c.as_slice-2.ensures.value ∙ (c.in_ok-name.ensures ∙ ap (λ (front : List ℕ). front ++ unit) c.as_slice.ensures) in
    any_by_none m (codes "__profd_") unit name (λ (g : Global1). tells_counters m unit c.args.count (data_of g)) is c.in-None.ensures
