use Rattle.std.proofs.Common.{rules}
use Rattle.value_rows.proofs.Moves.{cut_splits}
use Rattle.value_rows.proofs.table.ValueRows.cut.Goals as goal

pub split_seat-seat-requires : goal.split_seat-seat-requires
split_seat-seat-requires g c = (search rules, search rules, cut_splits _ _ c.steps_keep.ensures.rows _ _ _ (search rules) (search rules))
