-- One counter of a seat that rose.
use Rattle.std.proofs.Common.{◌≡◌, ◌≢◌, ℕ, zero, suc, ◌+◌, ◌==◌, if◌then◌else◌, List, [], ◌∷◌, ◌++◌, slice_index, refl, ap, sym, ◌∙◌, subst, arith, append-nil, add-zero, eq-eqb, ne_eqb}
use native.Mathlib.Decide.{ℕ_discrete}
use mathlib.Core.Logic.{dite}
use Rattle.count_core.specs.CoreView.{raised}
use Rattle.counter_table.specs.Seen.{SeatSums}
use Rattle.value_rows.specs.Seen.{SeatAsks}
use Rattle.ir_model.specs.declared.probe.Event.TheVariants as event
use Rattle.counted_call.specs.Marks.{CountsGrew}

at_same : (xs : List ℕ) (i k : ℕ) → slice_index (raised xs i k) i ≡ slice_index xs i + k
at_same [] zero k = omega arith
at_same (x ∷ xs) zero k = refl
at_same [] (suc i) k = at_same [] i k
at_same (x ∷ xs) (suc i) k = at_same xs i k

at_other : (xs : List ℕ) (i k c : ℕ) → i ≢ c → slice_index (raised xs i k) c ≡ slice_index xs c
at_other [] zero k zero ne = absurd (ne refl)
at_other [] zero k (suc c) ne = refl
at_other (x ∷ xs) zero k zero ne = absurd (ne refl)
at_other (x ∷ xs) zero k (suc c) ne = refl
at_other [] (suc i) k zero ne = refl
at_other (x ∷ xs) (suc i) k zero ne = refl
at_other [] (suc i) k (suc c) ne = at_other [] i k c (λ e. ne (ap suc e))
at_other (x ∷ xs) (suc i) k (suc c) ne = at_other xs i k c (λ e. ne (ap suc e))

slice_index-raised : (xs : List ℕ) (i k c : ℕ) → slice_index (raised xs i k) c ≡ slice_index xs c + (if i == c then k else 0)
slice_index-raised xs i k c =
    dite (ℕ_discrete i c)
    (λ e. subst (λ (c : ℕ). slice_index (raised xs i k) c ≡ slice_index xs c + (if i == c then k else 0)) e (rw (eq-eqb i i refl) (at_same xs i k)))
    (λ ne. rw (ne_eqb i c ne) (at_other xs i k c ne ∙ sym (add-zero (slice_index xs c))))

pub counts_rose : (s z : SeatSums) (counter step : ℕ) → z ≡ record { table = s.table; shares = s.shares; sums = raised s.sums counter step } → CountsGrew (event.Added counter step ∷ []) s z
counts_rose s z counter step e = record {
  table = ap (λ (r : SeatSums). r.table) e;
  shares = ap (λ (r : SeatSums). r.shares) e;
  sums = λ c.
      let a : slice_index z.sums c ≡ slice_index (raised s.sums counter step) c = ap (λ (r : SeatSums). slice_index r.sums c) e in
      let b = slice_index-raised s.sums counter step c in
      omega arith;
}

pub asks_same : (s : SeatAsks) → s ≡ record s { asked = s.asked ++ [] }
asks_same s = ap (λ (l : List (ℕ × ℕ)). record s { asked = l }) (sym (append-nil s.asked))
