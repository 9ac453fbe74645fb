use Rattle.std.proofs.Common.{◌≡◌, ◌++◌, drop}
use Rattle.ir_tree.specs.Edges.{row_edges}
use Rattle.cfg_edges.proofs.edges.push_row.Given as goal

abbrev pub invariant-loop-position : goal.invariant-loop-position
invariant-loop-position l = l.edges.items ++ row_edges l.nodes l.block l.position (drop l.position l.row) ≡ l.initial.edges.items ++ row_edges l.nodes l.block 0 l.row
