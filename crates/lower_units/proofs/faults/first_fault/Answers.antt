use Rattle.std.proofs.Common.{List, ap, ◌∙◌}
use Rattle.ir_tree.specs.declared.types.Block.{Block}
use Rattle.ir_tree.specs.declared.types.Function.{Function}
use Rattle.lower_units.proofs.Searching.{part_found, part_past}
use Rattle.lower_units.specs.Faults.{first_fault, shown}
use Rattle.lower_units.specs.Table.{told_at}
use Rattle.lowering.specs.Asked.{asked_in}
use Rattle.lower_units.proofs.faults.first_fault.Goals as goal

pub returns-in-Some : goal.returns-in-Some
returns-in-Some c =
    part_found (told_at c.args.table.now) (λ (f : Function). asked_in f.blocks) c.args.functions.now c.loop-function.function-index c.function-item.result (shown c.in-Some.fault) c.loop-function-test.true c.function-item.is
    (c.in-Some.ensures ∙ ap (λ (bs : List Block). first_fault (told_at c.args.table.now) (asked_in bs)) c.as_slice.ensures) ∙ c.loop-function.invariant

pub loop-function-preserved : goal.loop-function-preserved
loop-function-preserved c =
    part_past (told_at c.args.table.now) (λ (f : Function). asked_in f.blocks) c.args.functions.now c.loop-function.function-index c.function-item.result c.loop-function-test.true c.function-item.is
    (c.in_default.ensures ∙ ap (λ (bs : List Block). first_fault (told_at c.args.table.now) (asked_in bs)) c.as_slice.ensures) ∙ c.loop-function.invariant
