use Rattle.std.proofs.Common.{◌≡◌, ◌++◌, drop}
use Rattle.text_pieces.specs.declared.stop.Stop.TheVariants as stops
use Rattle.text_pieces.specs.Pieces.{text_of}
use Rattle.text_pieces.specs.Lists.{items}
use Rattle.canonical_text.specs.Instructions.{entry_pieces}
use Rattle.ir_print.proofs.operation.push_entries.Given as goal

abbrev pub invariant-loop-i : goal.invariant-loop-i
invariant-loop-i l = l.out.items ++ text_of (items (entry_pieces l.ty) stops.Line (drop l.i l.entries)) ≡ l.initial.out.items ++ text_of (items (entry_pieces l.ty) stops.Line l.entries)
