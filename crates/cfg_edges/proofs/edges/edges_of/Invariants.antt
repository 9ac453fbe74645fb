use Rattle.std.proofs.Common.{◌≡◌, ◌++◌, drop}
use Rattle.ir_tree.specs.Edges.{edges_out_of, edges_by}
use Rattle.cfg_edges.proofs.edges.edges_of.Given as goal

abbrev pub invariant-loop-block : goal.invariant-loop-block
invariant-loop-block l = l.edges.items ++ edges_out_of l.nodes l.rows (drop l.block-index l.blocks) ≡ edges_by l.nodes l.rows l.blocks
