-- What the marks of a run add to counters and ask of rows, and how seats grow by them.
use Rattle.std.specs.Prelude.{◌≡◌, ℕ, ◌+◌, ◌==◌, if◌then◌else◌, List, [], ◌∷◌, ◌++◌, slice_index, sum_by}
use Rattle.std.proofs.Common.{refl, ◌∙◌, ap, sym, arith, append-nil, append_assoc}
use Rattle.std.proofs.lemmas.List.Sums.{sum_by-append}
use Rattle.ir_memory.specs.Address.{address_of}
use Rattle.ir_memory.specs.declared.value.Base.TheVariants.{Function}
use Rattle.ir_model.specs.declared.probe.Event.{Event}
use Rattle.ir_model.specs.declared.probe.Event.TheVariants as event
use Rattle.counter_table.specs.Seen.{SeatSums}
use Rattle.value_rows.specs.Seen.{SeatAsks}

-- the key of a function in the rows: its address
abbrev pub key_of : ℕ → ℕ
key_of callee = address_of (Function callee) 0

-- what an event adds to the counter c
abbrev pub amount_of : ℕ → Event → ℕ
amount_of c (event.Walked f edge) = 0
amount_of c (event.Target f site callee) = 0
amount_of c (event.Added counter step) = if counter == c then step else 0
amount_of c (event.Noted site callee) = 0
amount_of c (event.Chose f select value) = 0

-- what the events add to the counter c
abbrev pub added_by : List Event → ℕ → ℕ
added_by events c = sum_by (amount_of c) events

-- the (site, key) that an event asks for
abbrev pub ask_of : Event → List (ℕ × ℕ)
ask_of (event.Walked f edge) = []
ask_of (event.Target f site callee) = []
ask_of (event.Added counter step) = []
ask_of (event.Noted site callee) = (site, key_of callee) ∷ []
ask_of (event.Chose f select value) = []

abbrev pub asked_by : List Event → List (ℕ × ℕ)
asked_by [] = []
asked_by (e ∷ es) = ask_of e ++ asked_by es

-- the seat added what the events add
pub record CountsGrew (events : List Event) (before after : SeatSums) : Type 0 where
  pub table : after.table ≡ before.table
  pub shares : after.shares ≡ before.shares
  pub sums : (c : ℕ) → slice_index after.sums c ≡ slice_index before.sums c + added_by events c

-- the seat asked for what the events ask for, in order
abbrev pub AsksGrew : List Event → SeatAsks → SeatAsks → Type 0
AsksGrew events before after = after ≡ record before { asked = before.asked ++ asked_by events }

-- what grows in pieces
pub counts_stay : (s : SeatSums) → CountsGrew [] s s
counts_stay s = record { table = refl; shares = refl; sums = λ c. omega arith }

pub counts_more : (xs ys : List Event) (s t u : SeatSums) → CountsGrew xs s t → CountsGrew ys t u → CountsGrew (xs ++ ys) s u
counts_more xs ys s t u h g = record {
  table = g.table ∙ h.table;
  shares = g.shares ∙ h.shares;
  sums = λ c. let a = h.sums c in let b = g.sums c in omega (arith, sum_by-append (amount_of c) xs ys);
}

pub asked_by-append : (xs ys : List Event) → asked_by (xs ++ ys) ≡ asked_by xs ++ asked_by ys
asked_by-append [] ys = refl
asked_by-append (x ∷ xs) ys = ap (λ (l : List (ℕ × ℕ)). ask_of x ++ l) (asked_by-append xs ys) ∙ sym (append_assoc (ask_of x) (asked_by xs) (asked_by ys))

pub asks_stay : (s : SeatAsks) → AsksGrew [] s s
asks_stay s = ap (λ (l : List (ℕ × ℕ)). record s { asked = l }) (sym (append-nil s.asked))

pub asks_more : (xs ys : List Event) (s t u : SeatAsks) → AsksGrew xs s t → AsksGrew ys t u → AsksGrew (xs ++ ys) s u
asks_more xs ys s t u h g =
    g
    ∙ ap (λ (r : SeatAsks). record r { asked = r.asked ++ asked_by ys }) h
    ∙ ap (λ (l : List (ℕ × ℕ)). record s { asked = l }) (append_assoc s.asked (asked_by xs) (asked_by ys) ∙ ap (λ (l : List (ℕ × ℕ)). s.asked ++ l) (sym (asked_by-append xs ys)))
