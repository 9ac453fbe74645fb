-- What all calls come to, from what each worker did.
use Rattle.std.proofs.Common.{◌≡◌, ℕ, zero, suc, ◌+◌, ◌<◌, ◌≤◌, ◌==◌, List, [], ◌∷◌, ◌++◌, length, map, refl, ◌∙◌, ap, ap₂, sym, subst, arith, count_by, slice_index, slice_index_or, append-nil}
use Rattle.std.specs.Prelude.{All, sum_by, take, drop}
use Rattle.std.specs.List.{flat_map}
use Rattle.std.proofs.lemmas.List.{length-map, take_more, take_all, drop_all, ext_get_or, get_or-map}
use Rattle.std.proofs.lemmas.List.Sums.{sum_by-cons, sum_by_push, sum_by-append}
use Rattle.ticket_draw.proofs.Numbers.{sum_by-map}
use Rattle.ir_tree.specs.declared.types.Module.{Module}
use Rattle.ir_model.specs.declared.result.Call.{Call}
use Rattle.ir_model.specs.declared.result.CallResult.{CallResult}
use Rattle.ir_model.specs.declared.probe.Event.{Event}
use Rattle.count_core.specs.CoreState.{below}
use Rattle.value_rows.specs.Seen.{SeatAsks}
use Rattle.ticket_draw.specs.Tickets.{DrewEachOnce}
use Rattle.counted_call.specs.Marks.{CountsGrew, AsksGrew, amount_of, added_by, asked_by, asked_by-append}
use Rattle.run_workers.specs.Calls.{no_call, call_at, marks_alone, result_alone, results_of, all_marks, AskedAll}
use Rattle.run_workers.specs.Workers.{Seats, Grew, Ran, Finished, marks_at, result_at, marks_of_done, times, no_result}

-- something that adds up over events
module _ (measure : List Event → ℕ) (of_none : measure [] ≡ 0) (of_more : (xs ys : List Event) → measure (xs ++ ys) ≡ measure xs + measure ys) where
  of_all : {X : Type 0} (f : X → List Event) (xs : List X) → measure (flat_map f xs) ≡ sum_by (λ x. measure (f x)) xs
  of_all f [] = of_none
  of_all f (x ∷ xs) = of_more (f x) (flat_map f xs) ∙ ap (λ n. measure (f x) + n) (of_all f xs) ∙ sym (sum_by-cons (λ y. measure (f y)) x xs)

  module _ (calls : List Call) (g : Call → ℕ) where
    first_calls : (n : ℕ) → n ≤ length calls → sum_by (λ k. g (call_at calls k)) (below n) ≡ sum_by g (take n calls)
    first_calls zero le = refl
    first_calls (suc n) le =
        let next : suc n ≡ n + 1 = omega arith in
        let e : take (suc n) calls ≡ take n calls ++ call_at calls n ∷ [] = ap (λ k. take k calls) next ∙ take_more calls n no_call (omega arith) in
        sum_by_push (λ k. g (call_at calls k)) (below n) n ∙ ap (λ k. k + g (call_at calls n)) (first_calls n (omega arith)) ∙ sym (sum_by_push g (take n calls) (call_at calls n)) ∙ ap (sum_by g) (sym e)

    by_number : sum_by (λ k. g (call_at calls k)) (below (length calls)) ≡ sum_by g calls
    by_number = first_calls (length calls) (omega arith) ∙ ap (sum_by g) (take_all (length calls) calls (omega arith))

  pub in_all : (m : Module) (steps : ℕ) (calls : List Call) (done : List (ℕ × CallResult)) → DrewEachOnce (length calls) (map (λ e. e.0) done) → measure (marks_of_done m steps calls done) ≡ measure (all_marks m steps calls)
  in_all m steps calls done drew =
      of_all (λ (e : ℕ × CallResult). marks_at m steps calls e.0) done
      ∙ sym (sum_by-map (λ n. measure (marks_at m steps calls n)) (λ (e : ℕ × CallResult). e.0) done)
      ∙ drew.weighed (λ n. measure (marks_at m steps calls n))
      ∙ by_number calls (λ c. measure (marks_alone m steps c))
      ∙ sym (of_all (marks_alone m steps) calls)

module _ (m : Module) (steps : ℕ) (calls : List Call) (all : ℕ) (done : List (ℕ × CallResult)) (s t : Seats)
    (h : Finished m steps calls all done s t) (whole : s.tickets.shares ≡ all) (fresh : s.tickets.drawn ≡ []) where
  pub drew_all : DrewEachOnce (length calls) t.tickets.drawn
  drew_all = h.whole whole

  drew_done : DrewEachOnce (length calls) (map (λ e. e.0) done)
  drew_done = subst (DrewEachOnce (length calls)) (h.ran.grew.drawn ∙ ap (λ (l : List ℕ). l ++ map (λ e. e.0) done) fresh) drew_all

  pub counted_all : CountsGrew (all_marks m steps calls) s.counts t.counts
  counted_all = let g = h.ran.grew.counts in record {
    table = g.table;
    shares = g.shares;
    sums = λ c. g.sums c ∙ ap (λ n. slice_index s.counts.sums c + n) (in_all (λ es. added_by es c) refl (λ xs ys. sum_by-append (amount_of c) xs ys) m steps calls done drew_done);
  }

  pub asked_all : AskedAll (all_marks m steps calls) s.asks t.asks
  asked_all = let g = h.ran.grew.asks in record {
    table = ap (λ (a : SeatAsks). a.table) g;
    shares = ap (λ (a : SeatAsks). a.shares) g;
    weighed = λ weight.
        ap (λ (a : SeatAsks). sum_by weight a.asked) g
        ∙ sum_by-append weight s.asks.asked (asked_by (marks_of_done m steps calls done))
        ∙ ap (λ n. sum_by weight s.asks.asked + n) (in_all (λ es. sum_by weight (asked_by es)) refl (λ xs ys. ap (sum_by weight) (asked_by-append xs ys) ∙ sum_by-append weight (asked_by xs) (asked_by ys)) m steps calls done drew_done);
  }

  pub in_order :
      (places : List CallResult) → length places ≡ length calls
      → ((of : ℕ → CallResult) → All (λ e. e.1 ≡ of e.0) done → (n : ℕ) → 0 < times n done → slice_index_or places n no_result ≡ of n)
      → places ≡ results_of m steps calls
  in_order places size placed =
      ext_get_or no_result places (results_of m steps calls) (size ∙ sym (length-map calls (result_alone m steps)))
      (λ n lt.
      let inside : n < length calls = omega arith in
      let once = drew_done.once n inside in
      placed (result_at m steps calls) h.ran.results n (omega arith) ∙ sym (get_or-map (result_alone m steps) calls n no_call no_result inside))

-- a slice of a whole list is written back whole
pub written_back : {X : Type 0} (slice items : List X) (n : ℕ) → length slice ≡ length items → length items ≡ n → take n (slice ++ drop (length slice) items) ≡ slice
written_back slice items n size is =
    ap (λ l. take n (slice ++ l)) (drop_all (length slice) items (omega arith)) ∙ ap (take n) (append-nil slice) ∙ take_all n slice (omega arith)
