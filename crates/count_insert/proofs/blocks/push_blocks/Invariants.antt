use Rattle.std.proofs.Common.{◌≡◌, ◌++◌, ◌+◌, ◌<◌, ◌^◌, length}
use Rattle.count_insert.specs.Pieces.{pieces_at}
use Rattle.spec_lists.specs.Each.{each}
use Rattle.std.specs.Vec.Iter.{into_iter_items, into_iter_len}
use Rattle.count_insert.proofs.blocks.push_blocks.Given as goal

abbrev pub invariant-loop-block : goal.invariant-loop-block
invariant-loop-block l =
    (l.made.items ++ each (pieces_at l.unit l.heads) l.j (into_iter_items l.block-iterator) ≡ l.initial.made.items ++ each (pieces_at l.unit l.heads) 0 l.fn.blocks.items)
    × (into_iter_len l.block-iterator ≡ length (into_iter_items l.block-iterator))
    × (l.j + into_iter_len l.block-iterator < 2 ^ 64)
