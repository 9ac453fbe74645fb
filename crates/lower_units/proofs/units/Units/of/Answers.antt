use Rattle.std.proofs.Common.{List, None, ap, ◌∙◌}
use Rattle.ir_tree.specs.declared.types.Function.{Function}
use Rattle.lower_units.proofs.Telling.{told_is}
use Rattle.lower_units.specs.Told.{told_after}
use Rattle.lowering.specs.Asked.{all_asked, asked_by_all}
use Rattle.lower_units.proofs.units.Units.of.Goals as goal

pub invariant_of-result : goal.invariant_of-result
invariant_of-result c = record {
  told = λ q. c.in_ok-table.ensures q ∙ ap (λ (fs : List Function). told_after q None (asked_by_all fs)) c.as_slice.ensures ∙ told_is q (all_asked c.args.«module».now);
}
