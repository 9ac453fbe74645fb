-- The seat stays one of its table, with its shares.
use Rattle.std.proofs.Common.{◌≡◌}
use Rattle.bench_tables.proofs.counters.add_alone.Given as goal

abbrev pub invariant-rounds : goal.invariant-rounds
invariant-rounds l = record {
  table : l.seat.table ≡ l.initial.seat.table;
  shares : l.seat.shares ≡ l.initial.seat.shares;
}
