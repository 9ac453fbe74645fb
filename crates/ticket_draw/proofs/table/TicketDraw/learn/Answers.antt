use Rattle.std.proofs.Common.{rules}
use Rattle.ticket_draw.proofs.Moves.{look_allows}
use Rattle.ticket_draw.proofs.table.TicketDraw.learn.Goals as goal

pub load-requires : goal.load-requires
load-requires g c = (search rules, search rules, look_allows _ _ c.one_did_all.ensures.sums _ _ _ _ _ (search rules) (search rules))
