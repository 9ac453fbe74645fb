use Rattle.std.proofs.Common.{Bool, List, map, ap, ◌∙◌}
use Rattle.std.specs.List.{list_any}
use Rattle.gen_code.proofs.Declared.{module_same}
use Rattle.gen_code.specs.Planned.{intrinsics, plan_of, record_globals}
use Rattle.gen_plan.specs.Gen.{has_select}
use Rattle.ir_tree.specs.declared.types.Function.{Function}
use Rattle.gen_code.proofs.module.plan_module.Goals as goal

pub returns : goal.returns
returns c =
    let fs = c.as_slice-functions.ensures in
    module_same c.args.entry_first c.args.original.now c.of.result c.in_ok-record_globals.field-0 c.in_ok-declarations.field-0
    (c.of.ensures ∙ c.in_ok-plans.ensures.plans ∙ ap (λ (xs : List Function). map (plan_of c.args.entry_first) xs) fs)
    (c.in_ok-record_globals.ensures ∙ ap record_globals fs)
    (c.in_ok-declarations.ensures ∙ ap (λ (b : Bool). intrinsics b) (c.in_ok-plans.ensures.selects ∙ ap (λ (xs : List Function). list_any has_select xs) fs))
