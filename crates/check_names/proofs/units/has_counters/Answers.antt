use Rattle.std.proofs.Common.{◌≡◌, ◌++◌, ℕ, List, Option, is_some, codes, ap, ◌∙◌}
use Rattle.std.specs.List.{find, list_any}
use Rattle.std.specs.Option.{option_copied}
use Rattle.check_names.proofs.Found.{any_is_some}
use Rattle.check_names.proofs.UnitParts.{copied_some}
use Rattle.ir_tree.specs.Names.{same}
use Rattle.ir_tree.specs.declared.types.Global1.{Global1}
use Rattle.check_names.proofs.units.has_counters.Goals as goal

pub returns : goal.returns
returns c =
    let gs = c.args.module.now.globals in
    let name = c.as_slice-2.result.now in
    let is : name ≡ codes "__profc_" ++ c.args.unit.now = c.as_slice-2.ensures.value ∙ (c.in_ok-name.ensures ∙ ap (λ (front : List ℕ). front ++ c.args.unit.now) c.as_slice.ensures) in
    let found : option_copied c.find_variable.result ≡ find (λ (g : Global1). same name g.name) gs = c.find_variable.ensures in
    c.is_some.ensures ∙ (copied_some c.find_variable.result ∙ (ap (λ (o : Option Global1). is_some o) found ∙ (any_is_some name gs ∙ ap (λ (ns : List ℕ). list_any (λ (g : Global1). same ns g.name) gs) is)))
