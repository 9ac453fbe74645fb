use Rattle.std.proofs.Common.{◌∙◌, List, map, ap}
use Rattle.std.specs.Prelude.{sum_by}
use Rattle.ir_tree.specs.Edges.{edges_in}
use Rattle.ir_tree.specs.Functions.{numbered}
use Rattle.ir_tree.specs.declared.types.Function.{Function}
use Rattle.ir_tree.specs.declared.types.Global1.{Global1}
use Rattle.ir_model.specs.Values.{objects}
use Rattle.ir_code.specs.Found.{counters_of, sites_of, symbol_in, value_in}
use Rattle.ir_code.specs.Images.{image_of}
use Rattle.ir_code.specs.Resolved.{function_code}
use Rattle.ir_code.specs.Units.{counters_of_all, sites_of_all}
use Rattle.ir_machine.specs.Slots.{all_slots}
use Rattle.ir_machine.proofs.Symbols.{code_is, images_are}
use Rattle.ir_machine.proofs.program.resolve_module.Goals as goal

pub invariant_of-result : goal.invariant_of-result
invariant_of-result c =
    let m = c.args.module.now in
    let s = c.in_ok-symbols.symbols in
    let are = c.in_ok-symbols.ensures in (
      c.of.ensures ∙ c.in_ok-functions.ensures ∙ ap (λ (fs : List Function). map (function_code (symbol_in s) (counters_of s) (sites_of s)) (numbered fs)) c.as_slice.ensures ∙ code_is s m are,
      c.of-2.ensures ∙ c.in_ok-images.ensures ∙ ap (λ (gs : List Global1). map (image_of (value_in s)) (objects gs)) c.as_slice-2.ensures ∙ images_are s m are,
      are.tallies,
      c.in_ok-counter_total.ensures ∙ ap counters_of_all (c.as_slice-4.ensures ∙ are.tallies),
      c.in_ok-site_total.ensures ∙ ap sites_of_all (c.as_slice-5.ensures ∙ are.tallies),
      c.in_ok-numbering.ensures.0 ∙ ap (λ (fs : List Function). all_slots 0 (numbered fs)) c.as_slice-3.ensures,
      c.in_ok-numbering.ensures.1 ∙ ap (λ (fs : List Function). sum_by edges_in (numbered fs)) c.as_slice-3.ensures,
    )
