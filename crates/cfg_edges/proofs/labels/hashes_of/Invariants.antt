use Rattle.std.proofs.Common.{◌≡◌, map, take}
use Rattle.ir_tree.specs.Edges.{labels}
use Rattle.cfg_edges.specs.Blocks.{label_hash}
use Rattle.cfg_edges.proofs.labels.hashes_of.Given as goal

abbrev pub invariant-loop-block : goal.invariant-loop-block
invariant-loop-block l = l.hashes.items ≡ map label_hash (labels (take l.block-index l.blocks))
