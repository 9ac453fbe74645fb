use Rattle.std.proofs.Common.{rules}
use Rattle.counter_table.proofs.Moves.{add_allows}
use Rattle.counter_table.proofs.table.CounterTable.add.Goals as goal

pub fetch_add-requires : goal.fetch_add-requires
fetch_add-requires c = (search rules, search rules, add_allows _ _ c.steps_keep.ensures.sound _ _ _ _ _ c.seat.invariant.1 (search rules))
