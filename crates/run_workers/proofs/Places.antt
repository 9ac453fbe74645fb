-- Results that are put into the places of their numbers.
use Rattle.std.proofs.Common.{◌≡◌, ℕ, ◌+◌, ◌<◌, ◌==◌, List, [], ◌∷◌, ◌++◌, length, map, refl, ◌∙◌, ap, sym, subst, arith, count_by, ne_eqb, eq-eqb, slice_index_or, slice_set, length-append}
use Rattle.std.specs.Prelude.{All}
use mathlib.Core.Logic.{dite}
use native.Mathlib.Decide.{ℕ_discrete}
use Rattle.std.proofs.lemmas.List.{map_push, get_or_append_left, get_or_push, length-set, get_or-set_same, get_or-set_other}
use Rattle.count_core.specs.CoreView.{one_if}
use Rattle.count_core.proofs.Kept.{count_push}
use Rattle.ir_model.specs.declared.result.CallResult.{CallResult}
use Rattle.run_workers.specs.Workers.{ArePlaced, times, no_result}

all_front : {X : Type 0} (P : X → Type 0) (xs : List X) (x : X) → All P (xs ++ x ∷ []) → All P xs
all_front P xs x h k d lt = subst P (get_or_append_left xs (x ∷ []) d k lt) (h k d (omega (arith, length-append xs (x ∷ []))))

all_last : {X : Type 0} (P : X → Type 0) (xs : List X) (x : X) → All P (xs ++ x ∷ []) → P x
all_last P xs x h = subst P (get_or_push xs x x (length xs) refl) (h (length xs) x (omega (arith, length-append xs (x ∷ []))))

times_push : (n : ℕ) (xs : List (ℕ × CallResult)) (e : ℕ × CallResult) → times n (xs ++ e ∷ []) ≡ times n xs + one_if (e.0 == n)
times_push n xs e = ap (count_by (λ k. k == n)) (map_push (λ (x : ℕ × CallResult). x.0) xs e) ∙ count_push (λ k. k == n) (map (λ x. x.0) xs) e.0

pub none_placed : (all : List (ℕ × CallResult)) (places : List CallResult) → All (λ n. n < length places) (map (λ e. e.0) all) → ArePlaced all all places
none_placed all places inside = record { inside = inside; same = λ of h. h; placed = λ of h n lt. absurd (omega arith) }

module _ (all rest fewer : List (ℕ × CallResult)) (places : List CallResult) (number : ℕ) (r : CallResult) (e : rest ≡ fewer ++ (number, r) ∷ []) (h : ArePlaced all rest places) where
  pub number_inside : number < length places
  number_inside = all_last (λ n. n < length places) (map (λ x. x.0) fewer) number (subst (All (λ n. n < length places)) (ap (map (λ x. x.0)) e ∙ map_push (λ (x : ℕ × CallResult). x.0) fewer (number, r)) h.inside)

  fewer_same : (of : ℕ → CallResult) → All (λ x. x.1 ≡ of x.0) all → All (λ x. x.1 ≡ of x.0) (fewer ++ (number, r) ∷ [])
  fewer_same of g = subst (All (λ x. x.1 ≡ of x.0)) e (h.same of g)

  pub one_placed : (after : List CallResult) → after ≡ slice_set places number r → ArePlaced all fewer after
  one_placed after is =
      let size : length after ≡ length places = ap length is ∙ length-set places number r in
      record {
        inside = subst (λ l. All (λ n. n < l) (map (λ x. x.0) fewer)) (sym size) (all_front (λ n. n < length places) (map (λ x. x.0) fewer) number (subst (All (λ n. n < length places)) (ap (map (λ x. x.0)) e ∙ map_push (λ (x : ℕ × CallResult). x.0) fewer (number, r)) h.inside));
        same = λ of g. all_front (λ x. x.1 ≡ of x.0) fewer (number, r) (fewer_same of g);
        placed = λ of g n lt.
            ap (λ l. slice_index_or l n no_result) is
            ∙ dite (ℕ_discrete number n)
            (λ here. subst (λ i. slice_index_or (slice_set places number r) i no_result ≡ of i) here (get_or-set_same places number r no_result number_inside ∙ all_last (λ x. x.1 ≡ of x.0) fewer (number, r) (fewer_same of g)))
            (λ other.
            let more : times n rest ≡ times n fewer = ap (times n) e ∙ times_push n fewer (number, r) ∙ ap (λ b. times n fewer + one_if b) (ne_eqb number n other) ∙ omega arith in
            get_or-set_other places number n r no_result (λ e. other (sym e)) ∙ h.placed of g n (omega arith));
      }

pub all_placed :
    (all rest : List (ℕ × CallResult)) (places : List CallResult) → rest ≡ [] → ArePlaced all rest places
    → (of : ℕ → CallResult) → All (λ e. e.1 ≡ of e.0) all → (n : ℕ) → 0 < times n all → slice_index_or places n no_result ≡ of n
all_placed all rest places e h of g n some = h.placed of g n (subst (λ l. times n l < times n all) (sym e) some)
