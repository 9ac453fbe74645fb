use Rattle.ticket_draw.proofs.table.TicketDraw.join.Given as goal

-- a look knows the table's numbers and shares
abbrev pub ghosts-learn : goal.ghosts-learn
ghosts-learn a = record { shares = a.self.now.shares; numbers = a.self.now.numbers }
