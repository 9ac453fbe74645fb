use Rattle.std.proofs.Common.{◌≡◌, ◌++◌, drop}
use Rattle.text_pieces.specs.declared.stop.Stop.TheVariants as stops
use Rattle.text_pieces.specs.Pieces.{text_of}
use Rattle.text_pieces.specs.Lists.{items}
use Rattle.canonical_text.specs.Notes.{weight_pieces}
use Rattle.ir_print.proofs.note.push_weight_items.Given as goal

abbrev pub invariant-loop-i : goal.invariant-loop-i
invariant-loop-i l = l.out.items ++ text_of (items weight_pieces stops.CloseBrace (drop l.i l.weights)) ≡ l.initial.out.items ++ text_of (items weight_pieces stops.CloseBrace l.weights)
