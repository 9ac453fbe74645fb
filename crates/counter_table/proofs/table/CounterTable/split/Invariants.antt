use Rattle.counter_table.proofs.table.CounterTable.split.Given as goal

-- a split knows the new seat's shares
abbrev pub ghosts-cut : goal.ghosts-cut
ghosts-cut a = record { known = a.shares }
