use Rattle.std.proofs.Common.{ap, length, arith, length-append}
use Rattle.value_rows.proofs.Filled.{rows_push}
use Rattle.value_rows.proofs.close.blank_rows.Goals as goal

pub rows-preserved : goal.rows-preserved
rows-preserved c = let longer = simp length-append at (ap length c.in_ok-push.ensures.items) in record { short = omega arith; room = rows_push c.args.places _ _ _ c.in_ok-push.ensures.items c.in_ok-row.ensures c.rows.invariant.room }
