use Rattle.std.proofs.Common.{◌≡◌, ◌≢◌, ◌-◌, ◌<◌}
use Rattle.value_rows.specs.Rows.{walk, Walks}
use Rattle.value_rows.proofs.table.ValueRows.ask.Given as goal

-- a walk begins at the site and with the key
abbrev pub ghosts-begin : goal.ghosts-begin
ghosts-begin a = record { site = a.site; key = a.key; shares = 0 }

-- the seat walks at its place, which has a key
abbrev pub invariant-loop-winner : goal.invariant-loop-winner
invariant-loop-winner l = record { table : l.seat.table_id ≡ l.fn.seat.table_id; walks : Walks (walk l.site l.key l.place l.winner) l.fn.seat.me l.seat.me; inside : l.place < l.places; full : l.winner ≢ 0 }

abbrev pub decreases-loop-winner : goal.decreases-loop-winner
decreases-loop-winner l = l.places - l.place
