use Rattle.std.proofs.Common.{rules}
use Rattle.counter_table.proofs.Moves.{merge_joins}
use Rattle.counter_table.proofs.table.CounterTable.join.Goals as goal

pub join_seat-requires : goal.join_seat-requires
join_seat-requires c = (search rules, search rules, c.other.invariant.0, search rules, merge_joins _ _ c.steps_keep.ensures.sound _ _ _ _ c.seat.invariant.1)
