use Rattle.std.proofs.Common.{◌≡◌, ◌++◌, take}
use Rattle.std.specs.List.{flat_map}
use Rattle.text_pieces.specs.Pieces.{text_of}
use Rattle.canonical_text.specs.Canonical.{variable_pieces}
use Rattle.ir_print.proofs.variable.push_variables.Given as goal

abbrev pub invariant-loop-global : goal.invariant-loop-global
invariant-loop-global l = l.out.items ≡ l.initial.out.items ++ flat_map (λ x. text_of (variable_pieces x)) (take l.global-index l.globals)
