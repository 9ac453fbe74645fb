use Rattle.std.proofs.Common.{◌≡◌, map, take}
use Rattle.std.specs.List.{list_any}
use Rattle.gen_code.specs.Planned.{plan_of}
use Rattle.gen_plan.specs.Gen.{has_select}
use Rattle.gen_code.proofs.module.plans_of.Given as goal

abbrev pub invariant-loop-function : goal.invariant-loop-function
invariant-loop-function l =
    (l.plans.items ≡ map (plan_of l.entry_first) (take l.function-index l.functions)) × (l.selects ≡ list_any has_select (take l.function-index l.functions))
