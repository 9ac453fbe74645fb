use Rattle.std.proofs.Common.{◌≡◌, ◌++◌, take}
use Rattle.std.specs.List.{flat_map}
use Rattle.text_pieces.specs.Written.{byte_text}
use Rattle.text_pieces.proofs.tokens.push_content.Given as goal

abbrev pub invariant-loop-b : goal.invariant-loop-b
invariant-loop-b l = l.out.items ≡ l.initial.out.items ++ flat_map byte_text (take l.b-index l.bytes)
