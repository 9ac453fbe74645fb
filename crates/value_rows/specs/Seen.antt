-- What contracts see of a table of rows and of a seat.
use Rattle.std.specs.Prelude.{ℕ, List, refl}
use Rattle.std.specs.Coded.{Coded, code_by, coded×, coded_ℕ, coded_list}
use Rattle.atomic_table.specs.Seated.{TableId, table_id_coded}
use Rattle.count_core.specs.declared.state.Layout.{Layout}
use Rattle.value_rows.specs.Rows.{rows_only}

-- which table it is, its number of sites, the places of a row, and the shares of all its seats
pub record RowsSize : Type 0 where
  pub id : TableId
  pub sites : ℕ
  pub places : ℕ
  pub shares : ℕ

abbrev pub rows_size_code : Coded RowsSize
rows_size_code =
    code_by (TableId × (ℕ × (ℕ × ℕ))) (coded× table_id_coded (coded× coded_ℕ (coded× coded_ℕ coded_ℕ)))
    (λ t. (t.id, (t.sites, (t.places, t.shares))))
    (λ p. record { id = p.0; sites = p.1.0; places = p.1.1.0; shares = p.1.1.1 })
    (λ _. refl)

abbrev pub layout_of : RowsSize → Layout
layout_of t = rows_only t.sites t.places

-- the table that a seat belongs to, its shares, and the (site, key) of each of its asks
pub record SeatAsks : Type 0 where
  pub table : TableId
  pub shares : ℕ
  pub asked : List (ℕ × ℕ)

abbrev pub seat_asks_code : Coded SeatAsks
seat_asks_code =
    code_by (TableId × (ℕ × List (ℕ × ℕ))) (coded× table_id_coded (coded× coded_ℕ (coded_list (coded× coded_ℕ coded_ℕ))))
    (λ t. (t.table, (t.shares, t.asked)))
    (λ p. record { table = p.0; shares = p.1.0; asked = p.1.1 })
    (λ _. refl)
