use Rattle.std.proofs.Common.{rules}
use Rattle.value_rows.proofs.Moves.{merge_joins}
use Rattle.value_rows.proofs.table.ValueRows.join.Goals as goal

pub join_seat-requires : goal.join_seat-requires
join_seat-requires c = (search rules, search rules, c.other.invariant.empty, search rules, merge_joins _ _ c.steps_keep.ensures.rows _ _ _ _ c.seat.invariant.has c.other.invariant.rests)
