use Rattle.std.proofs.Common.{◌≡◌, ◌++◌, take}
use Rattle.std.specs.List.{flat_map}
use Rattle.text_pieces.specs.Pieces.{text_of}
use Rattle.canonical_text.specs.Canonical.{block_pieces}
use Rattle.ir_print.proofs.function.push_blocks.Given as goal

abbrev pub invariant-loop-block : goal.invariant-loop-block
invariant-loop-block l = l.out.items ≡ l.initial.out.items ++ flat_map (λ x. text_of (block_pieces l.nodes x)) (take l.block-index l.blocks)
