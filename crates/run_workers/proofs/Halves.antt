-- Two halves of the workers put together again.
use Rattle.std.proofs.Common.{◌≡◌, ℕ, zero, suc, ◌+◌, ◌-◌, ◌/◌, ◌<◌, true, false, ◌||◌, List, [], ◌∷◌, ◌++◌, length, map, refl, ◌∙◌, ap, ap₂, sym, subst, arith, append-nil, append_assoc, slice_index}
use Rattle.std.specs.Prelude.{All, sum_by, Result, Ok, Err, IfOk, IsOkAnd, OnErr}
use Rattle.std.specs.List.{flat_map}
use Rattle.std.proofs.lemmas.List.Elements.{All-append}
use Rattle.std.proofs.lemmas.Grind.{flat_map-append}
use Rattle.std.proofs.lemmas.List.{map-append}
use Rattle.std.proofs.lemmas.List.Sums.{sum_by-append}
use Rattle.ir_tree.specs.declared.types.Module.{Module}
use Rattle.ir_model.specs.declared.result.Call.{Call}
use Rattle.ir_model.specs.declared.result.CallResult.{CallResult}
use Rattle.ir_model.specs.declared.probe.Event.{Event}
use Rattle.count_core.specs.CoreView.{joined}
use Rattle.count_core.proofs.Lists.{get_or-joined}
use Rattle.counter_table.specs.Seen.{SeatSums}
use Rattle.value_rows.specs.Seen.{SeatAsks}
use Rattle.ticket_draw.specs.Seen.{SeatTickets}
use Rattle.ticket_draw.specs.Tickets.{DrewEachOnce}
use Rattle.counted_call.specs.Marks.{CountsGrew, AsksGrew, amount_of, asked_by, asked_by-append}
use Rattle.run_workers.specs.Workers.{Seats, seats, Tables, CanRun, Grew, Ran, Finished, Stopped, FirstParts, marks_at, result_at, marks_of_done}
use Rattle.run_workers.proofs.Grows.{is_number, has_result, grew_as, parts_done, parts_more}

-- a seat whose shares are cut, the new seat, and the two joined
abbrev pub kept_counts : SeatSums → ℕ → SeatSums
kept_counts s k = record { table = s.table; shares = s.shares - k; sums = s.sums }

abbrev pub new_counts : SeatSums → ℕ → SeatSums
new_counts s k = record { table = s.table; shares = k; sums = [] }

abbrev pub joined_counts : SeatSums → SeatSums → SeatSums
joined_counts s t = record { table = s.table; shares = s.shares + t.shares; sums = joined s.sums t.sums }

abbrev pub kept_asks : SeatAsks → ℕ → SeatAsks
kept_asks s k = record { table = s.table; shares = s.shares - k; asked = s.asked }

abbrev pub new_asks : SeatAsks → ℕ → SeatAsks
new_asks s k = record { table = s.table; shares = k; asked = [] }

abbrev pub joined_asks : SeatAsks → SeatAsks → SeatAsks
joined_asks s t = record { table = s.table; shares = s.shares + t.shares; asked = s.asked ++ t.asked }

abbrev pub kept_tickets : SeatTickets → ℕ → SeatTickets
kept_tickets s k = record { table = s.table; shares = s.shares - k; drawn = s.drawn; ended = false }

abbrev pub new_tickets : SeatTickets → ℕ → SeatTickets
new_tickets s k = record { table = s.table; shares = k; drawn = []; ended = false }

abbrev pub joined_tickets : SeatTickets → SeatTickets → SeatTickets
joined_tickets s t = record { table = s.table; shares = s.shares + t.shares; drawn = s.drawn ++ t.drawn; ended = s.ended || t.ended }

-- the seats before, and how they were cut and joined
pub record Parted (k : ℕ) (whole first second first_after second_after after : Seats) : Type 0 where
  pub small : (k < whole.counts.shares) × (k < whole.asks.shares) × (k < whole.tickets.shares)
  pub kept_c : first.counts ≡ kept_counts whole.counts k
  pub new_c : second.counts ≡ new_counts whole.counts k
  pub joined_c : after.counts ≡ joined_counts first_after.counts second_after.counts
  pub kept_a : first.asks ≡ kept_asks whole.asks k
  pub new_a : second.asks ≡ new_asks whole.asks k
  pub joined_a : after.asks ≡ joined_asks first_after.asks second_after.asks
  pub kept_t : first.tickets ≡ kept_tickets whole.tickets k
  pub new_t : second.tickets ≡ new_tickets whole.tickets k
  pub joined_t : after.tickets ≡ joined_tickets first_after.tickets second_after.tickets

counts_halves :
    (xs ys : List Event) (k : ℕ) (s a b c d : SeatSums) → k < s.shares → a ≡ kept_counts s k → b ≡ new_counts s k
    → CountsGrew xs a c → CountsGrew ys b d → CountsGrew (xs ++ ys) s (joined_counts c d)
counts_halves xs ys k s a b c d small ea eb g h = record {
  table = g.table ∙ ap (λ (x : SeatSums). x.table) ea;
  shares =
      let u : a.shares ≡ s.shares - k = ap (λ (x : SeatSums). x.shares) ea in
      let v : b.shares ≡ k = ap (λ (x : SeatSums). x.shares) eb in
      let p = g.shares in let q = h.shares in omega arith;
  sums = λ i.
      let u : slice_index a.sums i ≡ slice_index s.sums i = ap (λ (x : SeatSums). slice_index x.sums i) ea in
      let v : slice_index b.sums i ≡ 0 = ap (λ (x : SeatSums). slice_index x.sums i) eb in
      let p = g.sums i in let q = h.sums i in let j = get_or-joined c.sums d.sums i in
      omega (arith, sum_by-append (amount_of i) xs ys);
}

asks_halves :
    (xs ys : List Event) (k : ℕ) (s a b c d : SeatAsks) → k < s.shares → a ≡ kept_asks s k → b ≡ new_asks s k
    → AsksGrew xs a c → AsksGrew ys b d → AsksGrew (xs ++ ys) s (joined_asks c d)
asks_halves xs ys k s a b c d small ea eb g h =
    let p : c ≡ record { table = s.table; shares = s.shares - k; asked = s.asked ++ asked_by xs } = g ∙ ap (λ (x : SeatAsks). record x { asked = x.asked ++ asked_by xs }) ea in
    let q : d ≡ record { table = s.table; shares = k; asked = asked_by ys } = h ∙ ap (λ (x : SeatAsks). record x { asked = x.asked ++ asked_by ys }) eb in
    let n : (s.shares - k) + k ≡ s.shares = omega arith in
    ap₂ joined_asks p q
    ∙ ap₂ (λ (j : ℕ) (l : List (ℕ × ℕ)). record { table = s.table; shares = j; asked = l }) n (append_assoc s.asked (asked_by xs) (asked_by ys) ∙ ap (λ (l : List (ℕ × ℕ)). s.asked ++ l) (sym (asked_by-append xs ys)))

pub grew_halves :
    (calls : List Call) (ns ms : List ℕ) (xs ys : List Event) (k : ℕ) (s a b c d u : Seats) → Parted k s a b c d u
    → Grew calls ns xs a c → Grew calls ms ys b d → Grew calls (ns ++ ms) (xs ++ ys) s u
grew_halves calls ns ms xs ys k s a b c d u p g h = record {
  counts = subst (CountsGrew (xs ++ ys) s.counts) (sym p.joined_c) (counts_halves xs ys k s.counts a.counts b.counts c.counts d.counts p.small.0 p.kept_c p.new_c g.counts h.counts);
  asks = subst (AsksGrew (xs ++ ys) s.asks) (sym p.joined_a) (asks_halves xs ys k s.asks a.asks b.asks c.asks d.asks p.small.1 p.kept_a p.new_a g.asks h.asks);
  table = ap (λ (x : SeatTickets). x.table) p.joined_t ∙ g.table ∙ ap (λ (x : SeatTickets). x.table) p.kept_t;
  shares =
      let e : u.tickets.shares ≡ c.tickets.shares + d.tickets.shares = ap (λ (x : SeatTickets). x.shares) p.joined_t in
      let v : a.tickets.shares ≡ s.tickets.shares - k = ap (λ (x : SeatTickets). x.shares) p.kept_t in
      let w : b.tickets.shares ≡ k = ap (λ (x : SeatTickets). x.shares) p.new_t in
      let i = g.shares in let j = h.shares in let small = p.small.2 in omega arith;
  drawn =
      let v : c.tickets.drawn ≡ s.tickets.drawn ++ ns = g.drawn ∙ ap (λ (x : SeatTickets). x.drawn ++ ns) p.kept_t in
      let w : d.tickets.drawn ≡ ms = h.drawn ∙ ap (λ (x : SeatTickets). x.drawn ++ ms) p.new_t in
      ap (λ (x : SeatTickets). x.drawn) p.joined_t ∙ ap₂ ◌++◌ v w ∙ append_assoc s.tickets.drawn ns ms;
  inside = All-append (is_number calls) ns ms g.inside h.inside;
}

ran_halves :
    (m : Module) (steps : ℕ) (calls : List Call) (xs ys : List (ℕ × CallResult)) (k : ℕ) (s a b c d u : Seats) → Parted k s a b c d u
    → Ran m steps calls xs a c → Ran m steps calls ys b d → Ran m steps calls (xs ++ ys) s u
ran_halves m steps calls xs ys k s a b c d u p g h = record {
  grew = grew_as calls _ _ _ _ s u (sym (map-append (λ (e : ℕ × CallResult). e.0) xs ys)) (sym (flat_map-append (λ (e : ℕ × CallResult). marks_at m steps calls e.0) xs ys)) (grew_halves calls _ _ _ _ k s a b c d u p g.grew h.grew);
  results = All-append (has_result m steps calls) xs ys g.results h.results;
}

pub finished_halves :
    (m : Module) (steps : ℕ) (calls : List Call) (all : ℕ) (xs ys zs : List (ℕ × CallResult)) (k : ℕ) (s a b c d u : Seats) → Parted k s a b c d u
    → (u.tickets.shares ≡ all → u.tickets.ended ≡ true → DrewEachOnce (length calls) u.tickets.drawn) → zs ≡ xs ++ ys
    → Finished m steps calls all xs a c → Finished m steps calls all ys b d → Finished m steps calls all zs s u
finished_halves m steps calls all xs ys zs k s a b c d u p whole e g h =
    let ran = ran_halves m steps calls xs ys k s a b c d u p g.ran h.ran in
    let ended : u.tickets.ended ≡ true = ap (λ (x : SeatTickets). x.ended) p.joined_t ∙ ap (λ t. t || d.tickets.ended) g.ended in
    record {
      ran = subst (λ (l : List (ℕ × CallResult)). Ran m steps calls l s u) (sym e) ran;
      ended = ended;
      whole = λ is. whole (ran.grew.shares ∙ is) ended;
    }

pub stopped_finished : (m : Module) (steps : ℕ) (calls : List Call) (all : ℕ) (done : List (ℕ × CallResult)) (s t : Seats) → Finished m steps calls all done s t → Stopped m steps calls s t
stopped_finished m steps calls all done s t g = record { numbers = map (λ e. e.0) done; told = marks_of_done m steps calls done; grew = g.ran.grew; parts = parts_done m steps calls done }

pub stopped_halves :
    (m : Module) (steps : ℕ) (calls : List Call) (k : ℕ) (s a b c d u : Seats) → Parted k s a b c d u
    → Stopped m steps calls a c → Stopped m steps calls b d → Stopped m steps calls s u
stopped_halves m steps calls k s a b c d u p g h = record {
  numbers = g.numbers ++ h.numbers;
  told = g.told ++ h.told;
  grew = grew_halves calls g.numbers h.numbers g.told h.told k s a b c d u p g.grew h.grew;
  parts = parts_more (marks_at m steps calls) g.numbers h.numbers g.told h.told g.parts h.parts;
}

-- whatever a half came to, its seats grew
pub either_stopped :
    {A B : Type 0} (items : A → List (ℕ × CallResult)) (m : Module) (steps : ℕ) (calls : List Call) (all : ℕ) (s t : Seats) (r : Result A B)
    → IfOk r (λ done. Finished m steps calls all (items done) s t) → OnErr r (Stopped m steps calls s t) → Stopped m steps calls s t
either_stopped items m steps calls all s t (Ok done) g h = stopped_finished m steps calls all (items done) s t g
either_stopped items m steps calls all s t (Err e) g h = h

-- where the results of both halves are there, the calls are done
pub both_finished :
    {A B C D : Type 0} (items : A → List (ℕ × CallResult)) (others : C → List (ℕ × CallResult)) (m : Module) (steps : ℕ) (calls : List Call) (all : ℕ) (zs : List (ℕ × CallResult)) (k : ℕ) (s a b c d u : Seats) (r : Result A B) (q : Result C D)
    → Parted k s a b c d u → (u.tickets.shares ≡ all → u.tickets.ended ≡ true → DrewEachOnce (length calls) u.tickets.drawn)
    → IsOkAnd r (λ x. IsOkAnd q (λ y. zs ≡ items x ++ others y))
    → IfOk r (λ x. Finished m steps calls all (items x) a c) → IfOk q (λ y. Finished m steps calls all (others y) b d)
    → Finished m steps calls all zs s u
both_finished items others m steps calls all zs k s a b c d u (Ok x) (Ok y) p whole e g h = finished_halves m steps calls all (items x) (others y) zs k s a b c d u p whole e g h
both_finished items others m steps calls all zs k s a b c d u (Ok x) (Err y) p whole e g h = absurd e
both_finished items others m steps calls all zs k s a b c d u (Err x) q p whole e g h = absurd e

pub if_ok_then : {A B : Type 0} (P Q : A → Type 0) (r : Result A B) → IfOk r P → ((x : A) → P x → Q x) → IfOk r Q
if_ok_then P Q (Ok x) p f = f x p
if_ok_then P Q (Err e) p f = tt

-- seats with fewer shares for fewer workers
pub can_run_first :
    (m : Module) (calls : List Call) (t : Tables) (workers k : ℕ) (s : Seats) (c : SeatSums) (a : SeatAsks) (u : SeatTickets)
    → k < workers → CanRun m calls t workers s → c ≡ kept_counts s.counts k → a ≡ kept_asks s.asks k → u ≡ kept_tickets s.tickets k
    → CanRun m calls t (workers - k) (seats c a u)
can_run_first m calls t workers k s c a u small h ec ea eu = record {
  some = omega arith;
  valid = h.valid;
  numbers = h.numbers;
  counters = h.counters;
  sites = h.sites;
  count_table = ap (λ (x : SeatSums). x.table) ec ∙ h.count_table;
  row_table = ap (λ (x : SeatAsks). x.table) ea ∙ h.row_table;
  ticket_table = ap (λ (x : SeatTickets). x.table) eu ∙ h.ticket_table;
  count_shares = let e : c.shares ≡ s.counts.shares - k = ap (λ (x : SeatSums). x.shares) ec in let n = h.count_shares in omega arith;
  row_shares = let e : a.shares ≡ s.asks.shares - k = ap (λ (x : SeatAsks). x.shares) ea in let n = h.row_shares in omega arith;
  ticket_shares = let e : u.shares ≡ s.tickets.shares - k = ap (λ (x : SeatTickets). x.shares) eu in let n = h.ticket_shares in omega arith;
  more = ap (λ (x : SeatTickets). x.ended) eu;
}

pub can_run_second :
    (m : Module) (calls : List Call) (t : Tables) (workers k : ℕ) (s : Seats) (c : SeatSums) (a : SeatAsks) (u : SeatTickets)
    → 0 < k → CanRun m calls t workers s → c ≡ new_counts s.counts k → a ≡ new_asks s.asks k → u ≡ new_tickets s.tickets k
    → CanRun m calls t k (seats c a u)
can_run_second m calls t workers k s c a u some h ec ea eu = record {
  some = some;
  valid = h.valid;
  numbers = h.numbers;
  counters = h.counters;
  sites = h.sites;
  count_table = ap (λ (x : SeatSums). x.table) ec ∙ h.count_table;
  row_table = ap (λ (x : SeatAsks). x.table) ea ∙ h.row_table;
  ticket_table = ap (λ (x : SeatTickets). x.table) eu ∙ h.ticket_table;
  count_shares = let e : c.shares ≡ k = ap (λ (x : SeatSums). x.shares) ec in omega arith;
  row_shares = let e : a.shares ≡ k = ap (λ (x : SeatAsks). x.shares) ea in omega arith;
  ticket_shares = let e : u.shares ≡ k = ap (λ (x : SeatTickets). x.shares) eu in omega arith;
  more = ap (λ (x : SeatTickets). x.ended) eu;
}

pub parted :
    (m : Module) (calls : List Call) (t : Tables) (workers k : ℕ) (s a b c d u : Seats)
    → k < workers → CanRun m calls t workers s
    → a.counts ≡ kept_counts s.counts k → b.counts ≡ new_counts s.counts k → u.counts ≡ joined_counts c.counts d.counts
    → a.asks ≡ kept_asks s.asks k → b.asks ≡ new_asks s.asks k → u.asks ≡ joined_asks c.asks d.asks
    → a.tickets ≡ kept_tickets s.tickets k → b.tickets ≡ new_tickets s.tickets k → u.tickets ≡ joined_tickets c.tickets d.tickets
    → Parted k s a b c d u
parted m calls t workers k s a b c d u small h kc nc jc ka na ja kt nt jt = record {
  small = ((let n = h.count_shares in omega arith), (let n = h.row_shares in omega arith), (let n = h.ticket_shares in omega arith));
  kept_c = kc;
  new_c = nc;
  joined_c = jc;
  kept_a = ka;
  new_a = na;
  joined_a = ja;
  kept_t = kt;
  new_t = nt;
  joined_t = jt;
}

pub less_half : (n : ℕ) → 0 < n → n / 2 < n
less_half n some = omega arith

pub some_half : (n : ℕ) → 0 < n → (n ≡ 1 → ⊥) → 0 < n / 2
some_half zero some many = absurd (omega arith)
some_half (suc zero) some many = absurd (many refl)
some_half (suc (suc n)) some many = omega arith
