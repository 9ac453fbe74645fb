-- The rule of the ticket word, and what a step tells its seat.
use Rattle.std.specs.Prelude.{◌≡◌, ℕ, ◌+◌, ◌^◌, ◌<◌, ◌≤◌, true, false, ◌||◌, ◌==◌, if◌then◌else◌, nat_lt, nat_le, List, [], ◌∷◌, ◌++◌, length, map, sum_by, count_by, slice_index}
use mathlib.Core.Option.{some}
use lib.ListN.{get_elem?}
use Rattle.atomic_table.specs.Table.{Me}
use Rattle.atomic_table.specs.Seated.{TableId}
use Rattle.count_core.specs.declared.state.Layout.{Layout}
use Rattle.count_core.specs.declared.state.Opening.{Opening}
use Rattle.count_core.specs.declared.state.CoreView.{CoreView}
use Rattle.count_core.specs.CoreView.{fresh, merged}
use Rattle.count_core.specs.CoreState.{core, IsSound, below}
use Rattle.count_core.specs.CoreStep.{lessened, having_drawn}
use Rattle.ticket_draw.specs.declared.rule.TicketView.{TicketView}
use Rattle.ticket_draw.specs.Seen.{SeatTickets}

-- there are tickets and no counters or rows
abbrev pub tickets_only : ℕ → Layout
tickets_only n = record { counters = 0; sites = 0; places = 0; numbers = n }

pub record IsLaidOut (numbers : ℕ) (key : Opening) (id : TableId) : Type 0 where
  pub layout : key.layout ≡ tickets_only numbers
  pub words : id.words ≡ 1
  pub slots : id.slots ≡ 0
  -- each seat can find one number past the end, and the word stays below 2 ^ 32
  pub small : numbers + key.shares ≤ 2 ^ 32

abbrev pub core_of : TicketView → CoreView
core_of v = v.core

-- the shares of a seat that has met the end
abbrev pub ended_shares : TicketView → ℕ
ended_shares v = if v.ended then v.core.shares else 0

-- The rule of the ticket table.
pub record IsTicketed (all numbers : ℕ) (words : List ℕ) (views : List TicketView) : Type 0 where
  pub sound : IsSound all (core (tickets_only numbers) words (map core_of views))
  -- who has met the end found a number past it
  pub met : (id : ℕ) (v : TicketView) → get_elem? views id ≡ some v → v.ended ≡ true → numbers ≤ slice_index words 0
  -- each seat goes past the end once
  pub bounded : slice_index words 0 ≤ numbers + sum_by ended_shares views

abbrev pub fresh_tickets : ℕ → TicketView
fresh_tickets shares = record { core = fresh shares; ended = false }

abbrev pub spent_tickets : TicketView
spent_tickets = fresh_tickets 0

abbrev pub lessened_tickets : TicketView → ℕ → TicketView
lessened_tickets v k = record { core = lessened v.core k; ended = v.ended }

abbrev pub merged_tickets : TicketView → TicketView → TicketView
merged_tickets v u = record { core = merged v.core u.core; ended = v.ended || u.ended }

-- The numbers are those below n, each once: under every weighing they weigh what those below n do.
pub record DrewEachOnce (n : ℕ) (drawn : List ℕ) : Type 0 where
  pub once : (x : ℕ) → x < n → count_by (λ y. y == x) drawn ≡ 1
  pub no_other : (x : ℕ) → n ≤ x → count_by (λ y. y == x) drawn ≡ 0
  pub weighed : (h : ℕ → ℕ) → sum_by h drawn ≡ sum_by h (below n)

-- a view after its draw found a number: it has met the end where the number is not below n
abbrev pub view_after : TicketView → ℕ → ℕ → TicketView
view_after v number n = record { core = having_drawn v.core number n; ended = nat_le n number }

-- a seat after its draw found a number
abbrev pub seat_after : SeatTickets → ℕ → ℕ → SeatTickets
seat_after s number n = record { table = s.table; shares = s.shares; drawn = if nat_lt number n then s.drawn ++ number ∷ [] else s.drawn; ended = nat_le n number }

-- what a draw tells
pub record Drawn {S : Type 0} (all n : ℕ) (m : Me S TicketView) (number : ℕ) (w : Me S TicketView) : Type 0 where
  pub seat : w ≡ (view_after m.0 number n, m.1)
  pub whole : m.0.core.shares ≡ all → n ≤ number → DrewEachOnce n w.0.core.drawn
  pub few : length w.0.core.drawn ≤ n

-- what a look tells
pub record Learned {S : Type 0} (all n : ℕ) (m w : Me S TicketView) : Type 0 where
  pub same : w ≡ m
  pub whole : m.0.core.shares ≡ all → m.0.ended ≡ true → DrewEachOnce n m.0.core.drawn
