use Rattle.std.proofs.Common.{◌≡◌, ◌++◌, take}
use Rattle.std.specs.List.{flat_map}
use Rattle.text_pieces.specs.Pieces.{text_of}
use Rattle.canonical_text.specs.Canonical.{later_function}
use Rattle.ir_print.proofs.text.push_others.Given as goal

abbrev pub invariant-loop-function : goal.invariant-loop-function
invariant-loop-function l = l.out.items ≡ l.initial.out.items ++ flat_map (λ x. text_of (later_function l.nodes x)) (take l.function-index l.functions)
