use Rattle.std.proofs.Common.{◌≡◌, ◌++◌, drop}
use Rattle.ir_tree.specs.Edges.{marked_from}
use Rattle.cfg_edges.proofs.nodes.marked_blocks.Given as goal

abbrev pub invariant-loop-block : goal.invariant-loop-block
invariant-loop-block l = l.blocks.items ++ marked_from l.block (drop l.block l.marks) ≡ marked_from 0 l.marks
