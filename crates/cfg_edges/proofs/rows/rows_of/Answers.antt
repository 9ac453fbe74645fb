use Rattle.std.proofs.Common.{◌≡◌, ℕ, List, ◌++◌, length, ap, ◌∙◌, Bor, arith}
use Rattle.ir_tree.specs.Edges.{row_of}
use Rattle.ir_tree.specs.Successors.{successors}
use Rattle.ir_tree.specs.declared.types.Block.{Block}
use Rattle.cfg_edges.specs.Blocks.{places_in}
use Rattle.cfg_edges.proofs.Cuts.{rows_on}
use Rattle.cfg_edges.proofs.rows.rows_of.Goals as goal

pub loop-block-preserved : goal.loop-block-preserved
loop-block-preserved c =
    let g : Block → List ℕ = row_of c.args.blocks.now in
    let more : c.push_targets.new.targets.items ≡ c.loop-block.targets.items ++ g c.block-item.result = c.in_ok-push_targets.ensures.pushed ∙ ap (λ (bs : List Block). c.loop-block.targets.items ++ places_in bs (successors c.block-item.result.term)) c.loop-block.invariant.same in
    let size : c.len.result ≡ length c.push_targets.new.targets.items = omega (arith, c.len.ensures, c.push_targets.new.targets.ok.0) in
    let (so_far, ends) = rows_on g c.args.blocks.now c.loop-block.block-index c.block-item.result c.loop-block.ends.items c.loop-block.targets.items c.push.new.self.items c.push_targets.new.targets.items c.len.result
    c.loop-block-test.true c.block-item.is more size c.in_ok-push.ensures.items c.loop-block.invariant.cut_so_far c.loop-block.invariant.ends in
    record { same = ap (λ (b : Bor (List Block)). b.now) c.in_ok-push_targets.ensures.same ∙ c.loop-block.invariant.same; cut_so_far = so_far; ends = ends }
