-- What contracts see of a counter table and of a seat.
use Rattle.std.specs.Prelude.{ℕ, List, refl}
use Rattle.std.specs.Coded.{Coded, code_by, coded×, coded_ℕ, coded_list}
use Rattle.atomic_table.specs.Seated.{TableId, table_id_coded}

-- which table it is, its number of counters, and the shares of all its seats
pub record TableSize : Type 0 where
  pub id : TableId
  pub counters : ℕ
  pub shares : ℕ

abbrev pub table_size_code : Coded TableSize
table_size_code = code_by (TableId × (ℕ × ℕ)) (coded× table_id_coded (coded× coded_ℕ coded_ℕ)) (λ t. (t.id, (t.counters, t.shares))) (λ p. record { id = p.0; counters = p.1.0; shares = p.1.1 }) (λ _. refl)

-- the table that a seat belongs to, its shares, and what it added to each counter
pub record SeatSums : Type 0 where
  pub table : TableId
  pub shares : ℕ
  pub sums : List ℕ

abbrev pub seat_sums_code : Coded SeatSums
seat_sums_code = code_by (TableId × (ℕ × List ℕ)) (coded× table_id_coded (coded× coded_ℕ (coded_list coded_ℕ))) (λ t. (t.table, (t.shares, t.sums))) (λ p. record { table = p.0; shares = p.1.0; sums = p.1.1 }) (λ _. refl)
