-- Each step keeps the counters, the tickets and the shares.
use Rattle.std.proofs.Common.{◌≡◌, ◌≢◌, ℕ, zero, suc, ◌+◌, ◌%◌, ◌^◌, ◌<◌, ◌≤◌, min, Bool, true, false, List, [], ◌∷◌, ◌++◌, length, set, get_or, sum_by, sym, refl, ap, ◌∙◌, subst, arith, if◌then◌else◌, nat_lt, ltb-true, ltb-false, get_or-set_other, get_or-set_same, length-set, zero-add}
use Rattle.std.proofs.Math.Nat.{mod-add-mod}
use Rattle.std.proofs.lemmas.List.{set-get_or}
use Rattle.std.proofs.lemmas.List.Sums.{sum_by-append, sum_by_push}
use Rattle.std.specs.Prelude.{slice_index}
use mathlib.Core.Logic.{dite}
use mathlib.Core.Option.{some, some-injective, some-ne-none}
use native.Mathlib.Decide.{ℕ_discrete}
use lib.ListN.{get_elem?, length-replicate}
use Rattle.count_core.specs.declared.state.Layout.{Layout}
use Rattle.count_core.specs.declared.state.CoreView.{CoreView}
use Rattle.count_core.specs.declared.state.CoreState.{CoreState}
use Rattle.count_core.specs.Layout.{ticket_at, word_count}
use Rattle.count_core.specs.CoreView.{fresh, spent, raised, merged, shares_of, added_to, weight_of}
use Rattle.count_core.specs.CoreState.{core, opening, ticket_of, below, IsSound}
use Rattle.count_core.specs.CoreStep.{moved, having_drawn, lessened, cut, taking}
use Rattle.count_core.proofs.Views.{sum_same, sum_up, sum_split, sum_join, each_set, each_push, all_mine}
use Rattle.count_core.proofs.Lists.{get_or-raised_same, get_or-raised_other, get_or-joined, get_or-zeros, below-next, below-past}

-- a list of which one word was written anew with what it was
pub get_or-rewritten : (xs : List ℕ) (i c : ℕ) → get_or (set xs i (get_or xs i 0)) c 0 ≡ get_or xs c 0
get_or-rewritten xs i c = ap (λ (l : List ℕ). get_or l c 0) (set-get_or xs i 0)

-- a view with shares stays no idle view
idle_set : (views : List CoreView) (id : ℕ) (w : CoreView) → 0 < w.shares → ((j : ℕ) (u : CoreView) → get_elem? views j ≡ some u → u.shares ≡ 0 → u ≡ spent) → (j : ℕ) (u : CoreView) → get_elem? (set views id w) j ≡ some u → u.shares ≡ 0 → u ≡ spent
idle_set views id w has idle = each_set (λ _ u. u.shares ≡ 0 → u ≡ spent) views id w idle (λ e. absurd (omega arith))

module _ (all : ℕ) (s : CoreState) (id : ℕ) (v : CoreView) where
  -- neither a counter nor the ticket word changes
  pub beside : IsSound all s → get_elem? s.views id ≡ some v → 0 < v.shares → (words : List ℕ) (w : CoreView) → length words ≡ length s.words → ((c : ℕ) → c < s.layout.counters → slice_index words c ≡ slice_index s.words c) → slice_index words (ticket_at s.layout) ≡ ticket_of s → w.shares ≡ v.shares → w.added ≡ v.added → w.drawn ≡ v.drawn → IsSound all (core s.layout words (set s.views id w))
  beside h at has words w long counters ticket same_shares same_added same_drawn = record {
    sized = long ∙ h.sized;
    counted = λ c lt. counters c lt ∙ h.counted c lt ∙ ap (λ n. n % 2 ^ 64) (sym (sum_same (added_to c) s.views id v w at (ap (λ l. get_or l c 0) same_added)));
    bounded = subst (λ (n : ℕ). n ≤ 2 ^ 32) (sym ticket) h.bounded;
    drawn = λ f. sum_same (weight_of f) s.views id v w at (ap (λ l. sum_by f l) same_drawn) ∙ h.drawn f ∙ ap (λ n. sum_by f (below (min n s.layout.numbers))) (sym ticket);
    shared = sum_same shares_of s.views id v w at same_shares ∙ h.shared;
    idle = idle_set s.views id w (subst (λ (n : ℕ). 0 < n) (sym same_shares) has) h.idle;
  }

  -- no word changes at all
  pub looks : IsSound all s → get_elem? s.views id ≡ some v → 0 < v.shares → (i : ℕ) (w : CoreView) → w.shares ≡ v.shares → w.added ≡ v.added → w.drawn ≡ v.drawn → IsSound all (moved s i (slice_index s.words i) id w)
  looks h at has i w = beside h at has (set s.words i (slice_index s.words i)) w (length-set s.words i _) (λ c lt. get_or-rewritten s.words i c) (get_or-rewritten s.words i (ticket_at s.layout))

  -- a word of the rows changes
  pub in_rows : IsSound all s → get_elem? s.views id ≡ some v → 0 < v.shares → (i n : ℕ) (w : CoreView) → s.layout.counters ≤ i → i < ticket_at s.layout → w.shares ≡ v.shares → w.added ≡ v.added → w.drawn ≡ v.drawn → IsSound all (moved s i n id w)
  in_rows h at has i n w from to = beside h at has (set s.words i n) w (length-set s.words i n) (λ c lt. get_or-set_other s.words i c n 0 (λ e. omega arith)) (get_or-set_other s.words i (ticket_at s.layout) n 0 (λ e. omega arith))

  pub adds : IsSound all s → get_elem? s.views id ≡ some v → 0 < v.shares → (i k : ℕ) → i < s.layout.counters → IsSound all (moved s i ((slice_index s.words i + k) % 2 ^ 64) id (record v { added = raised v.added i k }))
  adds h at has i k in_range = record {
    sized = length-set s.words i _ ∙ h.sized;
    counted = λ c lt. dite (ℕ_discrete c i) (λ e. subst (λ (c : ℕ). slice_index (set s.words i n) c ≡ sum_by (added_to c) (set s.views id w) % 2 ^ 64) (sym e) here) (λ apart. there c lt apart);
    bounded = subst (λ (m : ℕ). m ≤ 2 ^ 32) (sym ticket) h.bounded;
    drawn = λ f. sum_same (weight_of f) s.views id v w at refl ∙ h.drawn f ∙ ap (λ m. sum_by f (below (min m s.layout.numbers))) (sym ticket);
    shared = sum_same shares_of s.views id v w at refl ∙ h.shared;
    idle = idle_set s.views id w has h.idle;
  }
    where
      n : ℕ
      n = (slice_index s.words i + k) % 2 ^ 64

      w : CoreView
      w = record v { added = raised v.added i k }

      inside : i < length s.words
      inside = let z = h.sized in omega arith

      ticket : slice_index (set s.words i n) (ticket_at s.layout) ≡ ticket_of s
      ticket = get_or-set_other s.words i (ticket_at s.layout) n 0 (λ e. omega arith)

      here : slice_index (set s.words i n) i ≡ sum_by (added_to i) (set s.views id w) % 2 ^ 64
      here =
          get_or-set_same s.words i n 0 inside
          ∙ ap (λ m. (m + k) % 2 ^ 64) (h.counted i in_range)
          ∙ mod-add-mod (sum_by (added_to i) s.views) (2 ^ 64) k
          ∙ ap (λ m. m % 2 ^ 64) (sym (sum_up (added_to i) s.views id k v w at (get_or-raised_same v.added i k)))

      there : (c : ℕ) → c < s.layout.counters → c ≢ i → slice_index (set s.words i n) c ≡ sum_by (added_to c) (set s.views id w) % 2 ^ 64
      there c lt apart =
          get_or-set_other s.words i c n 0 apart
          ∙ h.counted c lt
          ∙ ap (λ m. m % 2 ^ 64) (sym (sum_same (added_to c) s.views id v w at (get_or-raised_other v.added i k c apart)))

  pub draws : IsSound all s → get_elem? s.views id ≡ some v → 0 < v.shares → ticket_of s < 2 ^ 32 → IsSound all (moved s (ticket_at s.layout) (ticket_of s + 1) id (having_drawn v (ticket_of s) s.layout.numbers))
  draws h at has low = record {
    sized = length-set s.words _ _ ∙ h.sized;
    counted = λ c lt. get_or-set_other s.words (ticket_at s.layout) c (ticket_of s + 1) 0 (λ e. omega arith) ∙ h.counted c lt ∙ ap (λ m. m % 2 ^ 64) (sym (sum_same (added_to c) s.views id v w at refl));
    bounded = subst (λ (m : ℕ). m ≤ 2 ^ 32) (sym now) (omega arith);
    drawn = λ f. weighs f (nat_lt (ticket_of s) s.layout.numbers) refl ∙ ap (λ m. sum_by f (below (min m s.layout.numbers))) (sym now);
    shared = sum_same shares_of s.views id v w at refl ∙ h.shared;
    idle = idle_set s.views id w has h.idle;
  }
    where
      w : CoreView
      w = having_drawn v (ticket_of s) s.layout.numbers

      now : slice_index (set s.words (ticket_at s.layout) (ticket_of s + 1)) (ticket_at s.layout) ≡ ticket_of s + 1
      now = let z = h.sized in get_or-set_same s.words (ticket_at s.layout) (ticket_of s + 1) 0 (omega arith)

      weighs : (f : ℕ → ℕ) (b : Bool) → nat_lt (ticket_of s) s.layout.numbers ≡ b → sum_by (weight_of f) (set s.views id w) ≡ sum_by f (below (min (ticket_of s + 1) s.layout.numbers))
      weighs f true e =
          sum_up (weight_of f) s.views id (f (ticket_of s)) v w at (ap (λ b. sum_by f (if b then v.drawn ++ ticket_of s ∷ [] else v.drawn)) e ∙ sum_by_push f v.drawn (ticket_of s))
          ∙ ap (λ m. m + f (ticket_of s)) (h.drawn f)
          ∙ sym (below-next f (ticket_of s) s.layout.numbers (ltb-true _ _ e))
      weighs f false e =
          sum_same (weight_of f) s.views id v w at (ap (λ b. sum_by f (if b then v.drawn ++ ticket_of s ∷ [] else v.drawn)) e)
          ∙ h.drawn f
          ∙ sym (below-past f (ticket_of s) s.layout.numbers (ltb-false _ _ e))

  pub splits : IsSound all s → get_elem? s.views id ≡ some v → (k : ℕ) → 0 < k → k < v.shares → IsSound all (cut s id v k)
  splits h at k some_ less = record {
    sized = h.sized;
    counted = λ c lt. h.counted c lt ∙ ap (λ m. m % 2 ^ 64) (sym (sum_split (added_to c) s.views id v left (fresh k) at (omega arith)));
    bounded = h.bounded;
    drawn = λ f. sum_split (weight_of f) s.views id v left (fresh k) at (omega arith) ∙ h.drawn f;
    shared = sum_split shares_of s.views id v left (fresh k) at (omega arith) ∙ h.shared;
    idle = each_push (λ u. u.shares ≡ 0 → u ≡ spent) (set s.views id left) (fresh k) (idle_set s.views id left (omega arith) h.idle) (λ e. absurd (omega arith));
  }
    where
      left : CoreView
      left = lessened v k

  pub joins : IsSound all s → get_elem? s.views id ≡ some v → 0 < v.shares → (other : ℕ) (u : CoreView) → get_elem? (set s.views id (merged v u)) other ≡ some u → IsSound all (taking s id v other u)
  joins h at has other u at_other = record {
    sized = h.sized;
    counted = λ c lt. h.counted c lt ∙ ap (λ m. m % 2 ^ 64) (sym (sum_join (added_to c) s.views id other v u both spent at at_other (let j = get_or-joined v.added u.added c in omega arith)));
    bounded = h.bounded;
    drawn = λ f. sum_join (weight_of f) s.views id other v u both spent at at_other (let j = sum_by-append f v.drawn u.drawn in omega arith) ∙ h.drawn f;
    shared = sum_join shares_of s.views id other v u both spent at at_other (omega arith) ∙ h.shared;
    idle = each_set (λ _ x. x.shares ≡ 0 → x ≡ spent) (set s.views id both) other spent (idle_set s.views id both (omega arith) h.idle) (λ _. refl);
  }
    where
      both : CoreView
      both = merged v u

  -- where a view has all shares, a sum over the views is that one's
  pub alone : IsSound all s → get_elem? s.views id ≡ some v → v.shares ≡ all → (f : CoreView → ℕ) → f spent ≡ 0 → sum_by f s.views ≡ f v
  alone h at whole f none = all_mine shares_of f s.views id v at (h.shared ∙ sym whole) (λ j u at' e. ap f (h.idle j u at' e) ∙ none)

pub opens : (l : Layout) (shares : ℕ) → IsSound shares (opening l shares)
opens l shares = record {
  sized = length-replicate (word_count l) zero;
  counted = λ c lt. get_or-zeros (word_count l) c;
  bounded = subst (λ (n : ℕ). n ≤ 2 ^ 32) (sym (get_or-zeros (word_count l) (ticket_at l))) (omega arith);
  drawn = λ f. let none : min 0 l.numbers ≡ 0 = omega arith in sym (ap (λ n. sum_by f (below (min n l.numbers))) (get_or-zeros (word_count l) (ticket_at l)) ∙ ap (λ n. sum_by f (below n)) none);
  shared = zero-add shares;
  idle = first;
}
  where
    first : (id : ℕ) (v : CoreView) → get_elem? (fresh shares ∷ []) id ≡ some v → v.shares ≡ 0 → v ≡ spent
    first zero v e none = sym (some-injective _ _ e) ∙ ap fresh (ap shares_of (some-injective _ _ e) ∙ none)
    first (suc id) v e none = absurd (some-ne-none v (sym e))
