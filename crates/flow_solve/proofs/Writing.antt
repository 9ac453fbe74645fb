-- Counters written to the places of their edges.
use Rattle.std.proofs.Common.{◌≡◌, ℕ, ◌+◌, ◌<◌, inl, inr, List, length, slice_index, set, AllPairs, sym, subst, ◌∙◌, arith, get_or-set_same, get_or-set_other}
use Rattle.std.proofs.lemmas.Bool.{cases_eq}
use Rattle.spanning_order.specs.Lists.{Among}
use Rattle.flow_solve.proofs.Listed.{among_at}

module _ (counted : List ℕ) (before now : List ℕ) (i : ℕ) (edges : (k : ℕ) → Among k counted → k < length before) (same : length now ≡ length before) (within : i < length counted) where
  pub place_in : slice_index counted i < length now
  place_in = subst (λ (n : ℕ). slice_index counted i < n) (sym same) (edges _ (among_at counted i within))

module _ (counted counters : List ℕ) (before now : List ℕ) (i : ℕ) (edges : (k : ℕ) → Among k counted → k < length before) (rising : AllPairs (λ j k. j < k) counted) (same : length now ≡ length before)
    (within : i < length counted) (done : (j : ℕ) → j < i → slice_index now (slice_index counted j) ≡ slice_index counters j) (others : (k : ℕ) → (Among k counted → ⊥) → slice_index now k ≡ slice_index before k) where
  pub writes_further : ((j : ℕ) → j < i + 1 → slice_index (set now (slice_index counted i) (slice_index counters i)) (slice_index counted j) ≡ slice_index counters j)
      × ((k : ℕ) → (Among k counted → ⊥) → slice_index (set now (slice_index counted i) (slice_index counters i)) k ≡ slice_index before k)
  writes_further = (
    λ j lt. elim (cases_eq j i) [
      | inl e ↦ subst (λ (m : ℕ). slice_index (set now (slice_index counted i) (slice_index counters i)) (slice_index counted m) ≡ slice_index counters m) (sym e)
          (get_or-set_same now (slice_index counted i) (slice_index counters i) 0 (place_in counted before now i edges same within))
      | inr ne ↦ (
          let less : j < i = omega arith in
          let apart : slice_index counted j < slice_index counted i = rising j i 0 less within in
          get_or-set_other now (slice_index counted i) (slice_index counted j) (slice_index counters i) 0 (omega (arith, apart)) ∙ done j less)
    ],
    λ k out. get_or-set_other now (slice_index counted i) k (slice_index counters i) 0 (λ e. out (subst (λ (m : ℕ). Among m counted) (sym e) (among_at counted i within))) ∙ others k out,
  )
