use Rattle.std.proofs.Common.{◌∙◌, ◌<◌, List, None, get_or, length, subst}
use Rattle.check_operands.proofs.Merged.{further, item_first, label_first, none_yet}
use Rattle.ir_rules.specs.Parts.{place, unless}
use Rattle.ir_tree.specs.declared.types.Instr.{Instr}
use Rattle.check_operands.proofs.first.in_items.Goals as goal

pub loop-i-init : goal.loop-i-init
loop-i-init c =
    let m = c.args.scope.now.module.now in
    let f = c.args.scope.now.function.now in
    let k = c.args.k in
    let b = c.args.b in
    let block = c.args.block.now in
    none_yet m (λ r. unless (r.label f b block) (place k b 0)) (λ r i x. unless (r.item f b block i x) (place k b i)) block.instrs None (label_first m k f b block)

pub loop-i-preserved : goal.loop-i-preserved
loop-i-preserved c =
    let m = c.args.scope.now.module.now in
    let f = c.args.scope.now.function.now in
    let k = c.args.k in
    let b = c.args.b in
    let block = c.args.block.now in
    let i = c.loop-i.i in
    let x = c.instr-item.result in
    further m (λ r. unless (r.label f b block) (place k b 0)) (λ r j y. unless (r.item f b block j y) (place k b j)) block.instrs i x c.loop-i.found c.placed.result c.lower-found.result
    (subst (λ (ys : List Instr). i < length ys) c.as_slice-instr-items.ensures c.loop-i-test.true)
    (c.instr-item.is ∙ (λ j. get_or (c.as_slice-instr-items.ensures j) i x))
    c.loop-i.invariant
    (item_first m k f b block i x c.placed.result c.item_breaks.result c.placed.ensures c.item_breaks.ensures)
    c.lower-found.ensures
