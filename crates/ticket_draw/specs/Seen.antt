-- What contracts see of a ticket table and of a seat.
use Rattle.std.specs.Prelude.{ℕ, Bool, List, refl}
use Rattle.std.specs.Coded.{Coded, code_by, coded×, coded_ℕ, coded_bool, coded_list}
use Rattle.atomic_table.specs.Seated.{TableId, table_id_coded}

-- which table it is, the number below which it draws, and the shares of all its seats
pub record DrawSize : Type 0 where
  pub id : TableId
  pub numbers : ℕ
  pub shares : ℕ

abbrev pub draw_size_code : Coded DrawSize
draw_size_code = code_by (TableId × (ℕ × ℕ)) (coded× table_id_coded (coded× coded_ℕ coded_ℕ)) (λ t. (t.id, (t.numbers, t.shares))) (λ p. record { id = p.0; numbers = p.1.0; shares = p.1.1 }) (λ _. refl)

-- the table that a seat belongs to, its shares, the numbers that it drew, and whether it has met the end
pub record SeatTickets : Type 0 where
  pub table : TableId
  pub shares : ℕ
  pub drawn : List ℕ
  pub ended : Bool

abbrev pub seat_tickets_code : Coded SeatTickets
seat_tickets_code =
    code_by (TableId × (ℕ × (List ℕ × Bool))) (coded× table_id_coded (coded× coded_ℕ (coded× (coded_list coded_ℕ) coded_bool)))
    (λ t. (t.table, (t.shares, (t.drawn, t.ended))))
    (λ p. record { table = p.0; shares = p.1.0; drawn = p.1.1.0; ended = p.1.1.1 })
    (λ _. refl)
