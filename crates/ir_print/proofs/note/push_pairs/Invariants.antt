use Rattle.std.proofs.Common.{◌≡◌, ◌++◌, drop}
use Rattle.text_pieces.specs.declared.stop.Stop.TheVariants as stops
use Rattle.text_pieces.specs.Pieces.{text_of}
use Rattle.text_pieces.specs.Lists.{items}
use Rattle.canonical_text.specs.Notes.{pair_pieces}
use Rattle.ir_print.proofs.note.push_pairs.Given as goal

abbrev pub invariant-loop-i : goal.invariant-loop-i
invariant-loop-i l = l.out.items ++ text_of (items pair_pieces stops.CloseBrace (drop l.i l.list)) ≡ l.initial.out.items ++ text_of (items pair_pieces stops.CloseBrace l.list)
