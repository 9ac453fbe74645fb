use Rattle.std.proofs.Common.{◌∙◌, ap, List}
use Rattle.std.specs.List.{flat_map}
use Rattle.ir_limits.proofs.OverLists.{flat_found}
use Rattle.ir_limits.specs.Objects.{block_arrays, over}
use Rattle.ir_rules.specs.Limits.{function_arrays}
use Rattle.ir_tree.specs.declared.types.Block.{Block}
use Rattle.ir_tree.specs.declared.types.Function.{Function}
use Rattle.spec_lists.specs.Each.{first_of}
use Rattle.ir_limits.proofs.objects.functions_above.Goals as goal

pub returns-in-Some : goal.returns-in-Some
returns-in-Some c = flat_found function_arrays c.args.functions.now c.loop-f.f-index c.f-item.result c.in-Some.found c.loop-f-test.true (c.in-Some.ensures ∙ (ap (λ (bs : List Block). first_of (over (flat_map block_arrays bs))) c.as_slice.ensures ∙ ap (λ (f : Function). first_of (over (function_arrays f))) c.f-item.is)) ∙ c.loop-f.invariant
