use Rattle.std.proofs.Common.{◌≡◌, length, map, take}
use Rattle.block_search.specs.Rows.{cut, AreEnds}
use Rattle.ir_tree.specs.Edges.{row_of}
use Rattle.cfg_edges.proofs.rows.rows_of.Given as goal

abbrev pub invariant-loop-block : goal.invariant-loop-block
invariant-loop-block l = record {
  same : l.labels.blocks.now ≡ l.blocks;
  cut_so_far : cut 0 l.ends.items l.targets.items ≡ map (row_of l.blocks) (take l.block-index l.blocks);
  ends : AreEnds 0 l.ends.items (length l.targets.items);
}
