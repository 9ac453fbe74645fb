use Rattle.std.proofs.Common.{◌≡◌}
use Rattle.value_rows.proofs.tests.asked_twice.Given as goal

-- the seat stays one of the table's, with all its shares
abbrev pub invariant-rounds : goal.invariant-rounds
invariant-rounds l = (l.seat.table ≡ l.table.id) × (l.seat.shares ≡ l.table.shares) × (l.table.sites ≡ 1)

abbrev pub invariant-keys : goal.invariant-keys
invariant-keys l = (l.seat.table ≡ l.table.id) × (l.seat.shares ≡ l.table.shares) × (l.table.sites ≡ 1)
