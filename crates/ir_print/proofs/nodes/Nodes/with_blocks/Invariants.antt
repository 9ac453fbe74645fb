use Rattle.std.proofs.Common.{◌≡◌, fold, take}
use Rattle.canonical_text.specs.Notes.{with_block}
use Rattle.ir_print.proofs.nodes.Nodes.with_blocks.Given as goal

abbrev pub invariant-loop-block : goal.invariant-loop-block
invariant-loop-block l = l.nodes ≡ fold with_block l.initial.nodes (take l.block-index l.blocks)
