use Rattle.std.proofs.Common.{◌∙◌, ◌<◌, List, get_or, length, subst}
use Rattle.check_operands.proofs.Merged.{further, head_first, none_yet}
use Rattle.ir_rules.specs.Parts.{block_places, place, unless}
use Rattle.ir_tree.specs.declared.types.Block.{Block}
use Rattle.check_operands.proofs.first.in_function.Goals as goal

pub loop-b-init : goal.loop-b-init
loop-b-init c =
    let m = c.args.scope.now.module.now in
    let f = c.args.scope.now.function.now in
    let k = c.args.k in
    none_yet m (λ r. unless (r.head k f) (place k 0 0)) (λ r. block_places r k f) f.blocks c.placed-found.result (head_first m k f c.placed-found.result c.head_breaks.result c.placed-found.ensures c.head_breaks.ensures)

pub loop-b-preserved : goal.loop-b-preserved
loop-b-preserved c =
    let m = c.args.scope.now.module.now in
    let f = c.args.scope.now.function.now in
    let k = c.args.k in
    let x = c.block-item.result in
    further m (λ r. unless (r.head k f) (place k 0 0)) (λ r. block_places r k f) f.blocks c.loop-b.b x c.loop-b.found c.in_block.result c.lower-found.result
    (subst (λ (ys : List Block). c.loop-b.b < length ys) c.as_slice-block-items.ensures c.loop-b-test.true)
    (c.block-item.is ∙ (λ j. get_or (c.as_slice-block-items.ensures j) c.loop-b.b x))
    c.loop-b.invariant
    c.in_block.ensures
    c.lower-found.ensures
