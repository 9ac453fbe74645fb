use Rattle.std.proofs.Common.{rules}
use Rattle.ticket_draw.proofs.Moves.{cut_splits}
use Rattle.ticket_draw.proofs.table.TicketDraw.cut.Goals as goal

pub split_seat-seat-requires : goal.split_seat-seat-requires
split_seat-seat-requires g c = (search rules, search rules, cut_splits _ _ c.steps_keep.ensures.sound _ _ _ (search rules) (search rules) (search rules))
