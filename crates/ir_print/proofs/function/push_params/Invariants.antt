use Rattle.std.proofs.Common.{◌≡◌, ◌++◌, drop}
use Rattle.text_pieces.specs.declared.stop.Stop.TheVariants as stops
use Rattle.text_pieces.specs.Pieces.{text_of}
use Rattle.text_pieces.specs.Lists.{items}
use Rattle.canonical_text.specs.Canonical.{param_pieces}
use Rattle.ir_print.proofs.function.push_params.Given as goal

abbrev pub invariant-loop-i : goal.invariant-loop-i
invariant-loop-i l = l.out.items ++ text_of (items param_pieces stops.CloseParen (drop l.i l.params)) ≡ l.initial.out.items ++ text_of (items param_pieces stops.CloseParen l.params)
