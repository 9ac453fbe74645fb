use Rattle.ticket_draw.proofs.table.TicketDraw.split.Given as goal

-- a split knows the new seat's shares
abbrev pub ghosts-cut : goal.ghosts-cut
ghosts-cut a = record { shares = a.shares; numbers = 0 }
