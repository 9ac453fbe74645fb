use Rattle.std.proofs.Common.{◌∙◌, ap, arith, Option, None}
use Rattle.std.proofs.lemmas.Grind.{common_steps}
use Rattle.ir_limits.proofs.OverLists.{flat_found, flat_past}
use Rattle.ir_limits.specs.Objects.{over}
use Rattle.ir_rules.specs.Limits.{global_arrays}
use Rattle.ir_tree.specs.declared.types.Global1.{Global1}
use Rattle.spec_lists.specs.Each.{first_of}
use Rattle.ir_limits.proofs.objects.globals_above.Goals as goal

pub returns-in-Some : goal.returns-in-Some
returns-in-Some c = flat_found (global_arrays c.args.kind) c.args.globals.now c.loop-g.g-index c.g-item.result c.in-Some.found c.loop-g-test.true (c.in-Some.ensures ∙ ap (λ (g : Global1). first_of (over (global_arrays c.args.kind g))) c.g-item.is) ∙ c.loop-g.invariant

pub loop-g-preserved : goal.loop-g-preserved
loop-g-preserved c = grind (arith, common_steps, flat_past (global_arrays c.args.kind) c.args.globals.now c.loop-g.g-index c.g-item.result c.loop-g-test.true)
