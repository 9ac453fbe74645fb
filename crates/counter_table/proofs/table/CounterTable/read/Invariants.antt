use Rattle.counter_table.proofs.table.CounterTable.read.Given as goal

-- a read knows the number of all shares
abbrev pub ghosts-find : goal.ghosts-find
ghosts-find a = record { known = a.self.now.shares }
