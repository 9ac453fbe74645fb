use Rattle.std.proofs.Common.{◌≡◌, ◌++◌, drop}
use Rattle.text_pieces.specs.Pieces.{text_of}
use Rattle.canonical_text.specs.Canonical.{node_lines}
use Rattle.ir_print.proofs.node.push_node_lines.Given as goal

abbrev pub invariant-loop-i : goal.invariant-loop-i
invariant-loop-i l = l.out.items ++ text_of (node_lines l.i (drop l.i l.notes)) ≡ l.initial.out.items ++ text_of (node_lines 0 l.notes)
