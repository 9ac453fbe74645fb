-- What `play` asks of a state is true of an opening state, and after each step that `play` makes.
use Rattle.std.proofs.Common.{◌≡◌, ◌≢◌, ℕ, zero, suc, ◌+◌, ◌-◌, ◌^◌, ◌<◌, ◌≤◌, true, ◌&&◌, nat_lt, List, [], ◌∷◌, ◌++◌, length, set, get_or, sum_by, Option, Some, None, sym, refl, ap, ◌∙◌, subst, arith, ltb-true, slice_index, IfSome}
use Rattle.std.proofs.lemmas.List.{get_or_past, length_push, get_or_append_left, set-append_left}
use mathlib.Core.Logic.{dite}
use mathlib.Core.Option.{some, some-injective, some-ne-none}
use native.Mathlib.Decide.{ℕ_discrete, dec_lt}
use lib.ListN.{get_elem?}
use Rattle.atomic_table.proofs.Lists.{set_else}
use Rattle.count_core.specs.declared.state.Layout.{Layout}
use Rattle.count_core.specs.declared.state.Walk.{Walk}
use Rattle.count_core.specs.declared.state.CoreView.{CoreView}
use Rattle.count_core.specs.declared.state.CoreState.{CoreState}
use Rattle.count_core.specs.declared.step.CoreStep.{CoreStep}
use Rattle.count_core.specs.declared.step.CoreStep.TheVariants.{Add, Read, LoadKey, ClaimKey, AddCount, AddDropped, Draw, Split, Join}
use Rattle.count_core.specs.CoreView.{fresh, spent, raised, merged, shares_of, added_to}
use Rattle.count_core.specs.CoreState.{IsCore, IsOnWay, opening}
use Rattle.count_core.specs.CoreStep.{view_of, is_resting, allowed, after, after_claim, after_count, after_drop, seen, lessened}
use Rattle.count_core.specs.Play.{IsReady, can_play}
use Rattle.count_core.proofs.Views.{sum_same, sum_up, sum_split, sum_join, sum_pointwise, each_set, each_push, two_le}
use Rattle.count_core.proofs.Kept.{and_left, and_right}
use Rattle.count_core.proofs.Lists.{get_or-raised_same, get_or-raised_other, get_or-joined, length-raised, length-joined}
use Rattle.count_core.proofs.Steps.{view_at, step_keeps, not_equal_test, opens_core}

zero_sum : (f : CoreView → ℕ) (xs : List CoreView) → ((i : ℕ) (v : CoreView) → get_elem? xs i ≡ some v → f v ≡ 0) → sum_by f xs ≤ sum_by (λ _. 0) xs
zero_sum f xs none = sum_pointwise f (λ _. 0) xs (λ i v at. let z = none i v at in omega arith)

zeros : (xs : List CoreView) → sum_by (λ _. 0) xs ≡ 0
zeros [] = refl
zeros (x ∷ xs) = zeros xs

-- past the counters no view added anything
pub always_fits : (s : CoreState) → IsReady s → (c : ℕ) → sum_by (added_to c) s.views < 2 ^ 128
always_fits s h c =
    dite (dec_lt c s.layout.counters)
    (λ lt. h.sums_fit c lt)
    (λ past. let le = zero_sum (added_to c) s.views (λ i v at. get_or_past v.added c 0 (let z = h.short i v at in omega arith)) in let z = zeros s.views in omega arith)

-- what each step adds to a counter's sum: all but Add leave it
short_set : (n : ℕ) (views : List CoreView) (id : ℕ) (w : CoreView) → ((j : ℕ) (u : CoreView) → get_elem? views j ≡ some u → length u.added ≤ n) → length w.added ≤ n → (j : ℕ) (u : CoreView) → get_elem? (set views id w) j ≡ some u → length u.added ≤ n
short_set n views id w short mine = each_set (λ _ u. length u.added ≤ n) views id w short mine

-- the state after a step whose views stay short and keep the sums
ready_with : (s t : CoreState) → IsReady s → t.layout ≡ s.layout → IsCore (sum_by shares_of s.views) t → ((id : ℕ) (v : CoreView) → get_elem? t.views id ≡ some v → length v.added ≤ s.layout.counters) → ((c : ℕ) → c < s.layout.counters → sum_by (added_to c) t.views < 2 ^ 128) → IsReady t
ready_with s t h same core short fit = record {
  core = subst (λ (n : ℕ). IsCore n t) (sym core.sound.shared) core;
  shares_fit = subst (λ (n : ℕ). n < 2 ^ 32) (sym core.sound.shared) h.shares_fit;
  short = λ id v at. subst (λ (l : Layout). length v.added ≤ l.counters) (sym same) (short id v at);
  sums_fit = λ c lt. fit c (subst (λ (l : Layout). c < l.counters) same lt);
}

short_of : (s : CoreState) → IsReady s → (seat : ℕ) → 0 < (view_of s seat).shares → length (view_of s seat).added ≤ s.layout.counters
short_of s h seat has = h.short seat (view_of s seat) (view_at s.views seat has)

-- the view of a seat changes, and not what it added
one_view : (s t : CoreState) (seat : ℕ) (w : CoreView) → IsReady s → 0 < (view_of s seat).shares → t.layout ≡ s.layout → IsCore (sum_by shares_of s.views) t → t.views ≡ set s.views seat w → w.added ≡ (view_of s seat).added → IsReady t
one_view s t seat w h has same core views added = ready_with s t h same core
    (λ id v at. short_set s.layout.counters s.views seat w h.short (subst (λ (l : List ℕ). length l ≤ s.layout.counters) (sym added) (short_of s h seat has)) id v (subst (λ (l : List CoreView). get_elem? l id ≡ some v) views at))
    (λ c lt. subst (λ (n : ℕ). n < 2 ^ 128) (sym (ap (sum_by (added_to c)) views ∙ sum_same (added_to c) s.views seat (view_of s seat) w (view_at s.views seat has) (ap (λ (l : List ℕ). get_or l c 0) added))) (h.sums_fit c lt))

module _ (s : CoreState) (h : IsReady s) (seat : ℕ) (has : 0 < (view_of s seat).shares) where
  claim_ready : (o : Option Walk) → IsCore (sum_by shares_of s.views) (after_claim s seat o) → IsReady (after_claim s seat o)
  claim_ready None core = h
  claim_ready (Some w) core = one_view s (after_claim s seat (Some w)) seat _ h has refl core refl refl

  count_ready : (o : Option Walk) → IsCore (sum_by shares_of s.views) (after_count s seat o) → IsReady (after_count s seat o)
  count_ready None core = h
  count_ready (Some w) core = one_view s (after_count s seat (Some w)) seat _ h has refl core refl refl

  drop_ready : (o : Option Walk) → IsCore (sum_by shares_of s.views) (after_drop s seat o) → IsReady (after_drop s seat o)
  drop_ready None core = h
  drop_ready (Some w) core = one_view s (after_drop s seat (Some w)) seat _ h has refl core refl refl

  add_ready : (index k : ℕ) → index < s.layout.counters → sum_by (added_to index) s.views + k < 2 ^ 128 → IsCore (sum_by shares_of s.views) (after s (Add seat index k)) → IsReady (after s (Add seat index k))
  add_ready index k lt fit core = ready_with s (after s (Add seat index k)) h refl core
      (short_set s.layout.counters s.views seat w h.short (length-raised (view_of s seat).added index k s.layout.counters (short_of s h seat has) lt))
      (λ c c_lt. dite (ℕ_discrete c index)
      (λ e. subst (λ (c : ℕ). sum_by (added_to c) (set s.views seat w) < 2 ^ 128) (sym e) (let z = sum_up (added_to index) s.views seat k (view_of s seat) w (view_at s.views seat has) (get_or-raised_same (view_of s seat).added index k) in omega arith))
      (λ ne. let z = sum_same (added_to c) s.views seat (view_of s seat) w (view_at s.views seat has) (get_or-raised_other (view_of s seat).added index k c ne) in let y = h.sums_fit c c_lt in omega arith))
    where
      w : CoreView
      w = record (view_of s seat) { added = raised (view_of s seat).added index k }

  split_ready : (k : ℕ) → IsCore (sum_by shares_of s.views) (after s (Split seat k)) → IsReady (after s (Split seat k))
  split_ready k core = ready_with s (after s (Split seat k)) h refl core
      (each_push (λ u. length u.added ≤ s.layout.counters) (set s.views seat w) (fresh k) (short_set s.layout.counters s.views seat w h.short (short_of s h seat has)) (omega arith))
      (λ c lt. let z = sum_split (added_to c) s.views seat (view_of s seat) w (fresh k) (view_at s.views seat has) (omega arith) in let y = h.sums_fit c lt in omega arith)
    where
      w : CoreView
      w = record (view_of s seat) { shares = (view_of s seat).shares - k }

  join_ready : (other : ℕ) → seat ≢ other → 0 < (view_of s other).shares → IsCore (sum_by shares_of s.views) (after s (Join seat other)) → IsReady (after s (Join seat other))
  join_ready other ne other_has core = ready_with s (after s (Join seat other)) h refl core
      (short_set s.layout.counters (set s.views seat both) other spent (short_set s.layout.counters s.views seat both h.short (omega (arith, length-joined (view_of s seat).added (view_of s other).added, short_of s h seat has, short_of s h other other_has))) (omega arith))
      (λ c lt.
      let j = get_or-joined (view_of s seat).added (view_of s other).added c in
      let z = sum_join (added_to c) s.views seat other (view_of s seat) (view_of s other) both spent (view_at s.views seat has) (set_else s.views seat other both (λ e. ne (sym e)) ∙ view_at s.views other other_has) (omega arith) in
      let y = h.sums_fit c lt in omega arith)
    where
      both : CoreView
      both = merged (view_of s seat) (view_of s other)

pub ready_after : (s : CoreState) (step : CoreStep) → IsReady s → can_play s step ≡ true → IsReady (after s step)
ready_after s (Add seat index k) h e =
    let a = and_left _ _ e in
    add_ready s h seat (ltb-true 0 _ (and_left _ _ a)) index k (ltb-true index s.layout.counters (and_right (nat_lt 0 (view_of s seat).shares) _ a)) (ltb-true _ (2 ^ 128) (and_right (allowed s (Add seat index k)) _ e)) (step_keeps _ s (Add seat index k) h.core a)
ready_after s (Read seat index) h e = h
ready_after s (LoadKey seat site key place) h e =
    let a = and_left _ _ e in
    one_view s (after s (LoadKey seat site key place)) seat _ h (ltb-true 0 _ (and_left _ _ a)) refl (step_keeps _ s (LoadKey seat site key place) h.core a) refl refl
ready_after s (ClaimKey seat place) h e = let a = and_left _ _ e in claim_ready s h seat (ltb-true 0 _ (and_left _ _ a)) (view_of s seat).walking (step_keeps _ s (ClaimKey seat place) h.core a)
ready_after s (AddCount seat place) h e = let a = and_left _ _ e in count_ready s h seat (ltb-true 0 _ (and_left _ _ a)) (view_of s seat).walking (step_keeps _ s (AddCount seat place) h.core a)
ready_after s (AddDropped seat) h e = let a = and_left _ _ e in drop_ready s h seat (ltb-true 0 _ (and_left _ _ a)) (view_of s seat).walking (step_keeps _ s (AddDropped seat) h.core a)
ready_after s (Draw seat) h e =
    let a = and_left _ _ e in
    one_view s (after s (Draw seat)) seat _ h (ltb-true 0 _ (and_left _ _ a)) refl (step_keeps _ s (Draw seat) h.core a) refl refl
ready_after s (Split seat k) h e =
    let a = and_left _ _ e in
    let r = and_right (is_resting (view_of s seat).walking) _ a in
    let less : k < (view_of s seat).shares = ltb-true k _ (and_right (nat_lt 0 k) _ r) in
    split_ready s h seat (omega arith) k (step_keeps _ s (Split seat k) h.core a)
ready_after s (Join seat other) h e =
    let a = and_left _ _ e in
    let shares = and_left _ _ a in
    let r = and_right (nat_lt 0 (view_of s seat).shares && nat_lt 0 (view_of s other).shares) _ a in
    join_ready s h seat (ltb-true 0 (view_of s seat).shares (and_left _ _ shares)) other (not_equal_test seat other (and_left _ _ r)) (ltb-true 0 (view_of s other).shares (and_right (nat_lt 0 (view_of s seat).shares) _ shares)) (step_keeps _ s (Join seat other) h.core a)

-- the opening number of shares stays
pub shares_after : (s : CoreState) (step : CoreStep) → IsReady s → can_play s step ≡ true → sum_by shares_of (after s step).views ≡ sum_by shares_of s.views
shares_after s step h e = (step_keeps (sum_by shares_of s.views) s step h.core (and_left _ _ e)).sound.shared

pub opening_ready : (l : Layout) (shares : ℕ) → shares < 2 ^ 32 → IsReady (opening l shares)
opening_ready l shares fit = record {
  core = subst (λ (n : ℕ). IsCore n (opening l shares)) (sym (opens_core l shares).sound.shared) (opens_core l shares);
  shares_fit = subst (λ (n : ℕ). n < 2 ^ 32) (sym (opens_core l shares).sound.shared) fit;
  short = first;
  sums_fit = λ c lt. omega arith;
}
  where
    first : (id : ℕ) (v : CoreView) → get_elem? (fresh shares ∷ []) id ≡ some v → length v.added ≤ l.counters
    first zero v at = subst (λ (v : CoreView). length v.added ≤ l.counters) (some-injective _ _ at) (omega arith)
    first (suc id) v at = absurd (some-ne-none v (sym at))

-- a walk of a seat is on its way
walk_view : (views : List CoreView) (seat : ℕ) (w : Walk) → (get_or views seat spent).walking ≡ Some w → get_elem? views seat ≡ some (get_or views seat spent)
walk_view [] seat w e = absurd (cc)
walk_view (x ∷ xs) zero w e = refl
walk_view (x ∷ xs) (suc seat) w e = walk_view xs seat w e

pub way_of : (s : CoreState) (seat : ℕ) (w : Walk) → IsReady s → (view_of s seat).walking ≡ Some w → IsOnWay s.layout s.words w
way_of s seat w h e = h.core.rows.walks seat (view_of s seat) w (walk_view s.views seat w e) e

pub walks_within : (views : List CoreView) (seat : ℕ) (w : Walk) → (get_or views seat spent).walking ≡ Some w → seat < length views
walks_within [] seat w e = absurd (cc)
walks_within (x ∷ xs) zero w e = omega arith
walks_within (x ∷ xs) (suc seat) w e = let h = walks_within xs seat w e in omega arith

-- two seats that may join have sums that fit
pub joins_fit : (s : CoreState) (seat other : ℕ) → IsReady s → can_play s (Join seat other) ≡ true → ((view_of s seat).shares + (view_of s other).shares < 2 ^ 32) × ((c : ℕ) → slice_index (view_of s seat).added c + slice_index (view_of s other).added c < 2 ^ 128)
joins_fit s seat other h e =
    let a = and_left _ _ e in
    let shares = and_left _ _ a in
    let r = and_right (nat_lt 0 (view_of s seat).shares && nat_lt 0 (view_of s other).shares) _ a in
    let has = ltb-true 0 (view_of s seat).shares (and_left _ _ shares) in
    let other_has = ltb-true 0 (view_of s other).shares (and_right (nat_lt 0 (view_of s seat).shares) _ shares) in
    let apart = not_equal_test seat other (and_left _ _ r) in
    let at = view_at s.views seat has in
    let at_other = view_at s.views other other_has in (
      (let z = two_le shares_of s.views seat other (view_of s seat) (view_of s other) apart at at_other in let y = h.shares_fit in omega arith),
      (λ c. let z = two_le (added_to c) s.views seat other (view_of s seat) (view_of s other) apart at at_other in let y = always_fits s h c in omega arith),
    )

pub ways_of : (s : CoreState) (seat : ℕ) (o : Option Walk) → IsReady s → o ≡ (view_of s seat).walking → IfSome o (λ w. IsOnWay s.layout s.words w)
ways_of s seat None h e = tt
ways_of s seat (Some w) h e = way_of s seat w h (sym e)

within : (views : List CoreView) (seat : ℕ) → 0 < (get_or views seat spent).shares → seat < length views
within [] seat has = absurd (omega arith)
within (x ∷ xs) zero has = omega arith
within (x ∷ xs) (suc seat) has = let h = within xs seat has in omega arith

-- a view is cut in two after the new one was put at the end
pub splits_in : (s : CoreState) (seat k : ℕ) (views : List CoreView) (new : CoreView) → can_play s (Split seat k) ≡ true → views ≡ s.views ++ new ∷ [] → (seat < length views) × (k ≤ (get_or views seat spent).shares)
splits_in s seat k views new e is =
    let a = and_left _ _ e in
    let r = and_right (is_resting (view_of s seat).walking) _ a in
    let less : k < (view_of s seat).shares = ltb-true k _ (and_right (nat_lt 0 k) _ r) in
    let lt = within s.views seat (omega arith) in
    subst (λ (l : List CoreView). (seat < length l) × (k ≤ (get_or l seat spent).shares)) (sym is)
    (omega (arith, length_push s.views new), (let same = ap shares_of (get_or_append_left s.views (new ∷ []) spent seat lt) in omega arith))

pub split_is : (s : CoreState) (seat k : ℕ) (views : List CoreView) (new : CoreView) → can_play s (Split seat k) ≡ true → new ≡ fresh k → views ≡ s.views ++ new ∷ [] → seen record { words = s.words; views = views; layout = s.layout } seat (lessened (get_or views seat spent) k) ≡ after s (Split seat k)
split_is s seat k views new e is_new is =
    let a = and_left _ _ e in
    let r = and_right (is_resting (view_of s seat).walking) _ a in
    let less : k < (view_of s seat).shares = ltb-true k _ (and_right (nat_lt 0 k) _ r) in
    let lt = within s.views seat (omega arith) in
    let pushed : views ≡ s.views ++ fresh k ∷ [] = is ∙ ap (λ (v : CoreView). s.views ++ v ∷ []) is_new in
    let set_is : set views seat (lessened (get_or views seat spent) k) ≡ set s.views seat (lessened (view_of s seat) k) ++ fresh k ∷ [] =
    ap (λ (l : List CoreView). set l seat (lessened (get_or l seat spent) k)) pushed
    ∙ ap (λ (v : CoreView). set (s.views ++ fresh k ∷ []) seat (lessened v k)) (get_or_append_left s.views (fresh k ∷ []) spent seat lt)
    ∙ set-append_left s.views (fresh k ∷ []) seat (lessened (view_of s seat) k) lt in
    λ i. record { words = s.words; views = set_is i; layout = s.layout }
