-- How seats grow, call after call.
use Rattle.std.proofs.Common.{◌≡◌, ℕ, ◌<◌, false, List, [], ◌∷◌, ◌++◌, length, map, refl, ◌∙◌, ap, ap₂, sym, subst, append-nil, append_assoc}
use Rattle.std.specs.Prelude.{All, true, slice_index_or, Result, Ok, Err, OnErr}
use Rattle.std.specs.List.{flat_map}
use Rattle.std.proofs.lemmas.List.Elements.{All-nil, All-cons, All-append}
use Rattle.std.proofs.lemmas.Grind.{flat_map-append}
use Rattle.std.proofs.lemmas.List.{map-append, get_or_default}
use Rattle.ir_tree.specs.declared.types.Module.{Module}
use Rattle.ir_model.specs.declared.result.Call.{Call}
use Rattle.ir_model.specs.declared.result.CallResult.{CallResult}
use Rattle.ir_model.specs.declared.probe.Event.{Event}
use Rattle.counter_table.specs.Seen.{SeatSums}
use Rattle.value_rows.specs.Seen.{SeatAsks}
use Rattle.ticket_draw.specs.Seen.{SeatTickets}
use Rattle.counted_call.specs.Marks.{CountsGrew, AsksGrew, counts_stay, counts_more, asks_stay, asks_more}
use Rattle.ticket_draw.specs.Tickets.{DrewEachOnce}
use Rattle.run_workers.specs.Calls.{no_call, call_at, marks_alone, result_alone}
use Rattle.run_workers.specs.Workers.{Seats, seats, Grew, Ran, Finished, Stopped, FirstParts, marks_at, result_at, marks_of_done}

abbrev pub is_number : List Call → ℕ → Type 0
is_number calls n = n < length calls

abbrev pub has_result : Module → ℕ → List Call → (ℕ × CallResult) → Type 0
has_result m steps calls e = e.1 ≡ result_at m steps calls e.0

pub grew_none : (calls : List Call) (s : Seats) → Grew calls [] [] s s
grew_none calls s = record { counts = counts_stay s.counts; asks = asks_stay s.asks; table = refl; shares = refl; drawn = sym (append-nil s.tickets.drawn); inside = All-nil (is_number calls) }

pub grew_more : (calls : List Call) (ns ms : List ℕ) (xs ys : List Event) (s t u : Seats) → Grew calls ns xs s t → Grew calls ms ys t u → Grew calls (ns ++ ms) (xs ++ ys) s u
grew_more calls ns ms xs ys s t u g h = record {
  counts = counts_more xs ys s.counts t.counts u.counts g.counts h.counts;
  asks = asks_more xs ys s.asks t.asks u.asks g.asks h.asks;
  table = h.table ∙ g.table;
  shares = h.shares ∙ g.shares;
  drawn = h.drawn ∙ ap (λ (l : List ℕ). l ++ ms) g.drawn ∙ append_assoc s.tickets.drawn ns ms;
  inside = All-append (is_number calls) ns ms g.inside h.inside;
}

-- one call was drawn
pub grew_one :
    (calls : List Call) (n : ℕ) (told : List Event) (c d : SeatSums) (a b : SeatAsks) (t u : SeatTickets)
    → u ≡ record { table = t.table; shares = t.shares; drawn = t.drawn ++ n ∷ []; ended = false }
    → n < length calls → CountsGrew told c d → AsksGrew told a b → Grew calls (n ∷ []) told (seats c a t) (seats d b u)
grew_one calls n told c d a b t u e inside counts asks = record {
  counts = counts;
  asks = asks;
  table = ap (λ (x : SeatTickets). x.table) e;
  shares = ap (λ (x : SeatTickets). x.shares) e;
  drawn = ap (λ (x : SeatTickets). x.drawn) e;
  inside = All-cons (is_number calls) n [] inside (All-nil (is_number calls));
}

pub ran_none : (m : Module) (steps : ℕ) (calls : List Call) (s : Seats) → Ran m steps calls [] s s
ran_none m steps calls s = record { grew = grew_none calls s; results = All-nil (has_result m steps calls) }

-- the events that Grew names may be given in another form
pub grew_as : (calls : List Call) (ns ms : List ℕ) (xs ys : List Event) (s t : Seats) → ns ≡ ms → xs ≡ ys → Grew calls ns xs s t → Grew calls ms ys s t
grew_as calls ns ms xs ys s t e f g = subst (λ (l : List ℕ). Grew calls l ys s t) e (subst (λ (l : List Event). Grew calls ns l s t) f g)

pub ran_more :
    (m : Module) (steps : ℕ) (calls : List Call) (done : List (ℕ × CallResult)) (n : ℕ) (r : CallResult) (s t u : Seats)
    → Ran m steps calls done s t → Grew calls (n ∷ []) (marks_at m steps calls n) t u → r ≡ result_at m steps calls n
    → Ran m steps calls (done ++ (n, r) ∷ []) s u
ran_more m steps calls done n r s t u g h is = record {
  grew = grew_as calls _ _ _ _ s u
      (sym (map-append (λ (e : ℕ × CallResult). e.0) done ((n, r) ∷ [])))
      (ap (λ (l : List Event). marks_of_done m steps calls done ++ l) (sym (append-nil (marks_at m steps calls n))) ∙ sym (flat_map-append (λ (e : ℕ × CallResult). marks_at m steps calls e.0) done ((n, r) ∷ [])))
      (grew_more calls _ _ _ _ s t u g.grew h);
  results = All-append (has_result m steps calls) done ((n, r) ∷ []) g.results (All-cons (has_result m steps calls) (n, r) [] is (All-nil (has_result m steps calls)));
}

-- ---- first parts
pub parts_done : (m : Module) (steps : ℕ) (calls : List Call) (done : List (ℕ × CallResult)) → FirstParts (marks_at m steps calls) (map (λ e. e.0) done) (marks_of_done m steps calls done)
parts_done m steps calls [] = refl
parts_done m steps calls (e ∷ es) = (marks_at m steps calls e.0, [], marks_of_done m steps calls es, sym (append-nil _), refl, parts_done m steps calls es)

pub parts_more : (marks : ℕ → List Event) (ns ms : List ℕ) (xs ys : List Event) → FirstParts marks ns xs → FirstParts marks ms ys → FirstParts marks (ns ++ ms) (xs ++ ys)
parts_more marks [] ms xs ys p q = subst (FirstParts marks ms) (ap (λ (l : List Event). l ++ ys) (sym p)) q
parts_more marks (n ∷ ns) ms xs ys p q =
    (p.0, p.1, p.2 ++ ys, p.3, ap (λ (l : List Event). l ++ ys) p.4 ∙ append_assoc p.0 p.2 ys, parts_more marks ns ms p.2 ys p.5 q)

pub stopped_done : (m : Module) (steps : ℕ) (calls : List Call) (done : List (ℕ × CallResult)) (s t : Seats) → Ran m steps calls done s t → Stopped m steps calls s t
stopped_done m steps calls done s t g = record { numbers = map (λ e. e.0) done; told = marks_of_done m steps calls done; grew = g.grew; parts = parts_done m steps calls done }

-- one more call was drawn and did not come to its end
pub stopped_in :
    (m : Module) (steps : ℕ) (calls : List Call) (done : List (ℕ × CallResult)) (n : ℕ) (told rest : List Event) (s t u : Seats)
    → Ran m steps calls done s t → Grew calls (n ∷ []) told t u → marks_at m steps calls n ≡ told ++ rest → Stopped m steps calls s u
stopped_in m steps calls done n told rest s t u g h e = record {
  numbers = map (λ e. e.0) done ++ n ∷ [];
  told = marks_of_done m steps calls done ++ told;
  grew = grew_more calls _ _ _ _ s t u g.grew h;
  parts = parts_more (marks_at m steps calls) (map (λ e. e.0) done) (n ∷ []) (marks_of_done m steps calls done) told (parts_done m steps calls done) (told, rest, [], e, sym (append-nil told), refl);
}

-- ---- one call of a worker
called_at : (calls : List Call) (n : ℕ) (call : Call) → n < length calls → call ≡ slice_index_or calls n call → call ≡ call_at calls n
called_at calls n call inside is = is ∙ get_or_default calls n call no_call inside

pub ran_call :
    (m : Module) (steps : ℕ) (calls : List Call) (done longer : List (ℕ × CallResult)) (s : Seats) (c d : SeatSums) (a b : SeatAsks) (t u : SeatTickets) (n : ℕ) (call : Call) (r : CallResult)
    → longer ≡ done ++ (n, r) ∷ [] → Ran m steps calls done s (seats c a t)
    → u ≡ record { table = t.table; shares = t.shares; drawn = t.drawn ++ n ∷ []; ended = false }
    → n < length calls → call ≡ slice_index_or calls n call
    → CountsGrew (marks_alone m steps call) c d → AsksGrew (marks_alone m steps call) a b → r ≡ result_alone m steps call
    → Ran m steps calls longer s (seats d b u)
ran_call m steps calls done longer s c d a b t u n call r push g e inside is counts asks result =
    let at = called_at calls n call inside is in
    subst (λ (l : List (ℕ × CallResult)). Ran m steps calls l s (seats d b u)) (sym push)
    (ran_more m steps calls done n r s (seats c a t) (seats d b u) g
    (grew_one calls n (marks_at m steps calls n) c d a b t u e inside
    (subst (λ (x : Call). CountsGrew (marks_alone m steps x) c d) at counts)
    (subst (λ (x : Call). AsksGrew (marks_alone m steps x) a b) at asks))
    (result ∙ ap (result_alone m steps) at))

pub stopped_call :
    (m : Module) (steps : ℕ) (calls : List Call) (done : List (ℕ × CallResult)) (s : Seats) (c d : SeatSums) (a b : SeatAsks) (t u : SeatTickets) (n : ℕ) (call : Call) (told rest : List Event)
    → Ran m steps calls done s (seats c a t)
    → u ≡ record { table = t.table; shares = t.shares; drawn = t.drawn ++ n ∷ []; ended = false }
    → n < length calls → call ≡ slice_index_or calls n call → marks_alone m steps call ≡ told ++ rest
    → CountsGrew told c d → AsksGrew told a b → Stopped m steps calls s (seats d b u)
stopped_call m steps calls done s c d a b t u n call told rest g e inside is marks counts asks =
    let at = called_at calls n call inside is in
    stopped_in m steps calls done n told rest s (seats c a t) (seats d b u) g (grew_one calls n told c d a b t u e inside counts asks) (ap (marks_alone m steps) (sym at) ∙ marks)

pub finished_now :
    (m : Module) (steps : ℕ) (calls : List Call) (all : ℕ) (done : List (ℕ × CallResult)) (s : Seats) (c : SeatSums) (a : SeatAsks) (t u : SeatTickets)
    → Ran m steps calls done s (seats c a t)
    → u ≡ record { table = t.table; shares = t.shares; drawn = t.drawn; ended = true }
    → (t.shares ≡ all → DrewEachOnce (length calls) u.drawn)
    → Finished m steps calls all done s (seats c a u)
finished_now m steps calls all done s c a t u g e whole = record {
  ran = record {
    grew = record {
      counts = g.grew.counts;
      asks = g.grew.asks;
      table = ap (λ (x : SeatTickets). x.table) e ∙ g.grew.table;
      shares = ap (λ (x : SeatTickets). x.shares) e ∙ g.grew.shares;
      drawn = ap (λ (x : SeatTickets). x.drawn) e ∙ g.grew.drawn;
      inside = g.grew.inside;
    };
    results = g.results;
  };
  ended = ap (λ (x : SeatTickets). x.ended) e;
  whole = λ is. whole (g.grew.shares ∙ is);
}

-- a fact that holds whatever the result holds after an error
pub on_err : {A B : Type 0} (P : Type 0) (r : Result A B) → P → OnErr r P
on_err P (Ok x) p = tt
on_err P (Err e) p = p
