use Rattle.std.proofs.Common.{ℕ, ◌<◌, List, length, get_or, refl, subst, sym}
use Rattle.cfg_edges.proofs.Targets.{edges_on, row_targets}
use Rattle.cfg_edges.proofs.edges.edges_of.Goals as goal

pub push_block-requires-clause-targets : goal.push_block-requires-clause-targets
push_block-requires-clause-targets c =
    row_targets c.args.rows.now (length c.args.nodes.now) (get_or c.args.blocks.now c.loop-block.block-index 0) c.row-row.result.now c.requires.targets c.requires.size c.row-row.ensures

pub push_block-requires-clause-few : goal.push_block-requires-clause-few
push_block-requires-clause-few c =
    subst (λ (r : List ℕ). length r < 4294967296) (sym c.row-row.ensures) (c.requires.few (get_or c.args.blocks.now c.loop-block.block-index 0))

pub loop-block-preserved : goal.loop-block-preserved
loop-block-preserved c =
    edges_on c.args.nodes.now c.args.rows.now c.args.blocks.now c.loop-block.block-index _ c.row-row.result.now c.loop-block.edges.items c.push_block.new.edges.items _ c.loop-block-test.true refl c.row-row.ensures c.in_ok-push_block.ensures c.loop-block.invariant
