use Rattle.std.proofs.Common.{rules}
use Rattle.ticket_draw.proofs.Moves.{draw_allows}
use Rattle.ticket_draw.proofs.table.TicketDraw.take.Goals as goal

pub fetch_add-requires : goal.fetch_add-requires
fetch_add-requires g c = (search rules, search rules, draw_allows _ _ c.steps_keep.ensures.sound c.one_did_all.ensures.sums _ _ _ _ _ (search rules) (search rules) (search rules) c.seat.invariant.1 (search rules))
