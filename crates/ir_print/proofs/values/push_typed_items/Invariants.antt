use Rattle.std.proofs.Common.{◌≡◌, ◌++◌, drop}
use Rattle.text_pieces.specs.declared.stop.Stop.TheVariants as stops
use Rattle.text_pieces.specs.Pieces.{text_of}
use Rattle.text_pieces.specs.Lists.{items}
use Rattle.canonical_text.specs.Values.{typed_pieces}
use Rattle.ir_print.proofs.values.push_typed_items.Given as goal

abbrev pub invariant-loop-i : goal.invariant-loop-i
invariant-loop-i l = l.out.items ++ text_of (items typed_pieces l.close (drop l.i l.list)) ≡ l.initial.out.items ++ text_of (items typed_pieces l.close l.list)
