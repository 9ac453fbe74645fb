-- What workers need of their seats, and how the seats grow by the calls that are drawn.
use Rattle.std.specs.Prelude.{◌≡◌, ℕ, ◌<◌, ◌≤◌, true, false, ◌==◌, List, [], ◌∷◌, ◌++◌, length, map, count_by, slice_index_or, All}
use Rattle.std.specs.List.{flat_map}
use Rattle.ir_tree.specs.declared.types.Module.{Module}
use Rattle.ir_model.specs.declared.result.Call.{Call}
use Rattle.ir_model.specs.declared.result.CallResult.{CallResult}
use Rattle.ir_model.specs.declared.result.End.TheVariants.{StepsSpent}
use Rattle.ir_model.specs.declared.probe.Event.{Event}
use Rattle.ir_model.specs.Run.{IsValidCall}
use Rattle.ir_code.specs.Units.{counters_of_all, sites_of_all, tallies_of}
use Rattle.counter_table.specs.Seen.{TableSize, SeatSums}
use Rattle.value_rows.specs.Seen.{RowsSize, SeatAsks}
use Rattle.ticket_draw.specs.Seen.{DrawSize, SeatTickets}
use Rattle.ticket_draw.specs.Tickets.{DrewEachOnce}
use Rattle.counted_call.specs.Marks.{CountsGrew, AsksGrew}
use Rattle.run_workers.specs.Calls.{result_alone, marks_alone, call_at}

-- the three seats that a worker steps with
pub record Seats : Type 0 where
  pub counts : SeatSums
  pub asks : SeatAsks
  pub tickets : SeatTickets

abbrev pub seats : SeatSums → SeatAsks → SeatTickets → Seats
seats c a t = record { counts = c; asks = a; tickets = t }

-- the tables that the seats belong to
pub record Tables : Type 0 where
  pub counters : TableSize
  pub rows : RowsSize
  pub tickets : DrawSize

abbrev pub tables : TableSize → RowsSize → DrawSize → Tables
tables c r t = record { counters = c; rows = r; tickets = t }

-- so many workers can run the calls with shares of these seats
pub record CanRun (m : Module) (calls : List Call) (t : Tables) (workers : ℕ) (s : Seats) : Type 0 where
  pub some : 0 < workers
  pub valid : All (IsValidCall m) calls
  pub numbers : t.tickets.numbers ≡ length calls
  pub counters : counters_of_all (tallies_of m) ≤ t.counters.counters
  pub sites : sites_of_all (tallies_of m) ≤ t.rows.sites
  pub count_table : s.counts.table ≡ t.counters.id
  pub row_table : s.asks.table ≡ t.rows.id
  pub ticket_table : s.tickets.table ≡ t.tickets.id
  pub count_shares : workers ≤ s.counts.shares
  pub row_shares : workers ≤ s.asks.shares
  pub ticket_shares : workers ≤ s.tickets.shares
  pub more : s.tickets.ended ≡ false

-- The seats drew these numbers of calls, and counted and noted these events.
pub record Grew (calls : List Call) (numbers : List ℕ) (told : List Event) (before after : Seats) : Type 0 where
  pub counts : CountsGrew told before.counts after.counts
  pub asks : AsksGrew told before.asks after.asks
  pub table : after.tickets.table ≡ before.tickets.table
  pub shares : after.tickets.shares ≡ before.tickets.shares
  pub drawn : after.tickets.drawn ≡ before.tickets.drawn ++ numbers
  pub inside : All (λ n. n < length calls) numbers

-- the events are, call after call, a first part of the marks of each
abbrev pub FirstParts : (ℕ → List Event) → List ℕ → List Event → Type 0
FirstParts marks [] told = told ≡ []
FirstParts marks (n ∷ ns) told = (first rest others : List Event) × (marks n ≡ first ++ rest) × (told ≡ first ++ others) × FirstParts marks ns others

abbrev pub marks_at : Module → ℕ → List Call → ℕ → List Event
marks_at m steps calls number = marks_alone m steps (call_at calls number)

abbrev pub result_at : Module → ℕ → List Call → ℕ → CallResult
result_at m steps calls number = result_alone m steps (call_at calls number)

-- the marks of the calls that are done
abbrev pub marks_of_done : Module → ℕ → List Call → List (ℕ × CallResult) → List Event
marks_of_done m steps calls done = flat_map (λ e. marks_at m steps calls e.0) done

-- These calls were drawn and run to their results, and the seats grew by all their marks.
pub record Ran (m : Module) (steps : ℕ) (calls : List Call) (done : List (ℕ × CallResult)) (before after : Seats) : Type 0 where
  pub grew : Grew calls (map (λ e. e.0) done) (marks_of_done m steps calls done) before after
  pub results : All (λ e. e.1 ≡ result_at m steps calls e.0) done

-- No call is left, and who holds all shares has drawn each one once.
pub record Finished (m : Module) (steps : ℕ) (calls : List Call) (all : ℕ) (done : List (ℕ × CallResult)) (before after : Seats) : Type 0 where
  pub ran : Ran m steps calls done before after
  pub ended : after.tickets.ended ≡ true
  pub whole : before.tickets.shares ≡ all → DrewEachOnce (length calls) after.tickets.drawn

-- Memory ran out: the seats hold what shares they held, and grew by the events of some drawn calls, each in whole or
-- by a first part.
pub record Stopped (m : Module) (steps : ℕ) (calls : List Call) (before after : Seats) : Type 0 where
  pub numbers : List ℕ
  pub told : List Event
  pub grew : Grew calls numbers told before after
  pub parts : FirstParts (marks_at m steps calls) numbers told

-- how many of the results are that of the number
abbrev pub times : ℕ → List (ℕ × CallResult) → ℕ
times number done = count_by (λ n. n == number) (map (λ e. e.0) done)

abbrev pub no_result : CallResult
no_result = record { printed = []; end = StepsSpent }

-- Where each result is that of its number, the place of a number has its result as soon as one is taken from the list.
pub record ArePlaced (all rest : List (ℕ × CallResult)) (places : List CallResult) : Type 0 where
  pub inside : All (λ n. n < length places) (map (λ e. e.0) rest)
  pub same : (of : ℕ → CallResult) → All (λ e. e.1 ≡ of e.0) all → All (λ e. e.1 ≡ of e.0) rest
  pub placed : (of : ℕ → CallResult) → All (λ e. e.1 ≡ of e.0) all → (n : ℕ) → times n rest < times n all → slice_index_or places n no_result ≡ of n
