use Rattle.std.proofs.Common.{◌≡◌, ℕ, List, take}
use Rattle.lower_units.specs.Table.{told_at}
use Rattle.lower_units.specs.Told.{told_after}
use Rattle.lowering.specs.Asked.{asked_in}
use Rattle.lower_units.proofs.table.Table.add_blocks.Given as goal

abbrev pub invariant-loop-block : goal.invariant-loop-block
invariant-loop-block l = (q : List ℕ) → told_at l.self q ≡ told_after q (told_at l.initial.self q) (asked_in (take l.block-index l.blocks))
