use Rattle.ticket_draw.proofs.table.TicketDraw.draw.Given as goal

-- a draw knows the table's numbers and shares
abbrev pub ghosts-take : goal.ghosts-take
ghosts-take a = record { shares = a.self.now.shares; numbers = a.self.now.numbers }
