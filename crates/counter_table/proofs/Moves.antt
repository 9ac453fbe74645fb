-- Each call is a step that the rule allows.
use Rattle.std.proofs.Common.{◌≡◌, ℕ, ◌+◌, ◌%◌, ◌^◌, ◌<◌, List, length, set, get_or, refl, sym, ap, ◌∙◌, subst, arith, slice_index, below_more, get_or-set_other, get_or-set_same}
use Rattle.std.proofs.lemmas.List.{set-get_or, get_or-drop}
use mathlib.Core.Option.{some}
use lib.ListN.{get_elem?}
use Rattle.atomic_table.specs.Table.{State, Me, keeps, Allows, Splits, Joins, Final, Seen}
use Rattle.atomic_table.proofs.Lists.{set_again, drop_at}
use Rattle.count_core.specs.declared.state.Layout.{Layout}
use Rattle.count_core.specs.declared.state.CoreView.{CoreView}
use Rattle.count_core.specs.CoreView.{fresh, spent, raised, merged, added_to}
use Rattle.count_core.specs.CoreState.{core, IsSound}
use Rattle.count_core.specs.CoreStep.{lessened}
use Rattle.count_core.specs.StepLaws.{KeepSound, OneDidAll}
use Rattle.counter_table.specs.Counters.{Added, Found}

module _ {S : Type 0} (all : ℕ) (l : Layout) where
  abbrev Rule : State S CoreView → Type 0
  Rule s = IsSound all (core l s.words s.views)

  module _ (steps : KeepSound) where
    pub add_allows : (slots id : ℕ) (m : Me S CoreView) (i k : ℕ) → 0 < m.0.shares → i < l.counters → Allows Rule slots id m i (λ n. (n + k) % 2 ^ 64) (λ _ n. Added i k m n)
    add_allows slots id m i k has lt s h _ at _ = (record m.0 { added = raised m.0.added i k }, keeps, tt, (steps all (core l s.words s.views) id m.0 h at has).adds i k lt, refl)

    pub cut_splits : (id : ℕ) (v : CoreView) (k : ℕ) → 0 < k → k < v.shares → Splits Rule id v (lessened v k) (fresh k)
    cut_splits id v k positive less s h at = (steps all (core l s.words s.views) id v h at (omega arith)).cuts k positive less

    pub merge_joins : (id : ℕ) (v : CoreView) (other : ℕ) (u : CoreView) → 0 < v.shares → Joins Rule id v other u (merged v u) spent
    merge_joins id v other u has s h at apart at_other = (steps all (core l s.words s.views) id v h at has).joins other u at_other

  module _ (alone : OneDidAll) where
    pub read_allows : (slots id : ℕ) (m : Me S CoreView) (i known : ℕ) → all ≡ known → i < l.counters → Allows Rule slots id m i (λ n. n) (λ word n. Found known i m word n)
    read_allows slots id m i known same lt s h _ at _ = (
      m.0,
      keeps,
      tt,
      subst (λ (y : List ℕ × List CoreView). IsSound all (core l y.0 y.1)) (λ j. (sym (set-get_or s.words i 0) j, sym (set_again s.views id m.0 at) j)) h,
      (refl, λ whole. h.counted i lt ∙ ap (λ n. n % 2 ^ 64) (alone all (core l s.words s.views) id m.0 h at (whole ∙ sym same) (added_to i) refl)),
    )

    -- the words at the end
    pub final_words : (id : ℕ) (v : CoreView) (words : List ℕ) (slots : List S) → v.shares ≡ all → Final (Seen Rule id v) words slots → (c : ℕ) → c < l.counters → slice_index words c ≡ slice_index v.added c % 2 ^ 64
    final_words id v words slots whole (s, seen, same, _, _) c lt =
        ap (λ ws. slice_index ws c) (sym same)
        ∙ seen.0.counted c lt
        ∙ ap (λ n. n % 2 ^ 64) (alone all (core l s.words s.views) id v seen.0 seen.1 whole (added_to c) refl)

-- a word of the last state, as a number
pub index_at : (xs : List ℕ) (i v : ℕ) → get_elem? xs i ≡ some v → get_or xs i 0 ≡ v
index_at xs i v e = let z : i ≡ i + 0 = omega arith in ap (λ k. get_or xs k 0) z ∙ sym (get_or-drop i xs 0 0) ∙ ap (λ (l : List ℕ). get_or l 0 0) (drop_at xs i v e)

-- one more word is copied
pub copied_more : (xs ys : List ℕ) (i v : ℕ) → i < length xs → get_elem? ys i ≡ some v → ((k : ℕ) → k < i → get_or xs k 0 ≡ get_or ys k 0) → (k : ℕ) → k < i + 1 → get_or (set xs i v) k 0 ≡ get_or ys k 0
copied_more xs ys i v inside at done = below_more _ _
    (λ k lt. get_or-set_other xs i k v 0 (λ e. omega arith) ∙ done k lt)
    (get_or-set_same xs i v 0 inside ∙ sym (index_at ys i v at))
