use Rattle.std.proofs.Common.{◌≡◌, ◌++◌, take}
use Rattle.std.specs.List.{flat_map}
use Rattle.text_pieces.specs.Pieces.{text_of}
use Rattle.canonical_text.specs.Instructions.{case_pieces}
use Rattle.ir_print.proofs.term.push_case_lines.Given as goal

abbrev pub invariant-loop-case : goal.invariant-loop-case
invariant-loop-case l = l.out.items ≡ l.initial.out.items ++ flat_map (λ x. text_of (case_pieces l.ty x)) (take l.case-index l.cases)
