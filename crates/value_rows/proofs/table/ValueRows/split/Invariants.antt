use Rattle.value_rows.proofs.table.ValueRows.split.Given as goal

-- a split knows the new seat's shares
abbrev pub ghosts-cut : goal.ghosts-cut
ghosts-cut a = record { site = 0; key = 0; shares = a.shares }
