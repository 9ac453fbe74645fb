-- Each allowed step keeps the invariant.
use Rattle.std.proofs.Common.{◌≡◌, ◌≢◌, ℕ, zero, suc, ◌+◌, ◌*◌, ◌%◌, ◌^◌, ◌<◌, ◌≤◌, true, not, ◌&&◌, ◌==◌, nat_lt, List, [], ◌∷◌, set, Option, Some, None, sym, refl, ap, ◌∙◌, subst, arith, if◌then◌else◌, get_or-set_other, true≢false, eqb-true, eq-eqb, ne_eqb, ltb-true, slice_index_or, slice_index}
use Rattle.std.proofs.lemmas.List.{set-get_or}
use mathlib.Core.Logic.{dite}
use mathlib.Core.Option.{some}
use native.Mathlib.Decide.{ℕ_discrete}
use lib.ListN.{get_elem?}
use Rattle.atomic_table.proofs.Lists.{set_else}
use Rattle.count_core.specs.declared.state.Layout.{Layout}
use Rattle.count_core.specs.declared.state.Walk.{Walk}
use Rattle.count_core.specs.declared.state.CoreView.{CoreView}
use Rattle.count_core.specs.declared.state.CoreState.{CoreState}
use Rattle.count_core.specs.declared.step.CoreStep.{CoreStep}
use Rattle.count_core.specs.declared.step.CoreStep.TheVariants.{Add, Read, LoadKey, ClaimKey, AddCount, AddDropped, Draw, Split, Join}
use Rattle.count_core.specs.Layout.{key_at, count_at, dropped_at, ticket_at}
use Rattle.count_core.specs.CoreView.{spent, walk_with, raised, merged}
use Rattle.count_core.specs.CoreState.{core, key_of, IsOnWay, HasRows, IsCore, opening}
use Rattle.count_core.specs.CoreStep.{view_of, is_resting, is_passing, can_load, can_claim, can_count, can_drop, allowed, moved, seen, walk_to, walking_on, claiming, after_claim, after_count, after_drop, having_asked, having_drawn, cut, taking, after}
use Rattle.count_core.specs.StepLaws.{looking, KeepSound, KeepRows}
use Rattle.count_core.proofs.Kept.{and_left, and_right}
use Rattle.count_core.proofs.Places.{word_at, word_before}
use Rattle.count_core.proofs.Keeps.{looks, in_rows, adds, draws, splits, joins, opens}
use Rattle.count_core.proofs.RowKeeps.{elsewhere, walks_on, claims, counts, drops, row_splits, row_joins, row_opens, first_way, next_way, lost_way}

-- a seat with shares is one of the views
pub view_at : (views : List CoreView) (seat : ℕ) → 0 < (slice_index_or views seat spent).shares → get_elem? views seat ≡ some (slice_index_or views seat spent)
view_at [] seat has = absurd (omega arith)
view_at (x ∷ xs) zero has = refl
view_at (x ∷ xs) (suc seat) has = view_at xs seat has

pub not_zero_test : (n : ℕ) → not (n == 0) ≡ true → n ≢ 0
not_zero_test n e z = true≢false (sym e ∙ ap not (eq-eqb n 0 z))

pub not_equal_test : (n m : ℕ) → not (n == m) ≡ true → n ≢ m
not_equal_test n m e z = true≢false (sym e ∙ ap not (eq-eqb n m z))

-- a word of the rows, and the counters and the ticket word
keeps_row_word : (all : ℕ) (s : CoreState) (id : ℕ) (v w : CoreView) → IsCore all s → get_elem? s.views id ≡ some v → 0 < v.shares → (site o n : ℕ) → site < s.layout.sites → o < 2 * s.layout.places + 1 → w.shares ≡ v.shares → w.added ≡ v.added → w.drawn ≡ v.drawn → HasRows (moved s (word_at s.layout site o) n id w) → IsCore all (moved s (word_at s.layout site o) n id w)
keeps_row_word all s id v w h at has site o n lt lt' same_shares same_added same_drawn rows = record {
  sound = in_rows all s id v h.sound at has (word_at s.layout site o) n w (let z : ℕ = site * (2 * s.layout.places + 1) in omega arith) (word_before s.layout site o lt lt') same_shares same_added same_drawn;
  rows = rows;
}

module _ (all : ℕ) (s : CoreState) (h : IsCore all s) where
  adds_core : (id : ℕ) (v : CoreView) → get_elem? s.views id ≡ some v → 0 < v.shares → (i k : ℕ) → i < s.layout.counters → IsCore all (moved s i ((slice_index s.words i + k) % 2 ^ 64) id (record v { added = raised v.added i k }))
  adds_core id v at has i k lt = record {
    sound = adds all s id v h.sound at has i k lt;
    rows = elsewhere s id v h.rows at (set s.words i ((slice_index s.words i + k) % 2 ^ 64)) (record v { added = raised v.added i k }) (λ site lt' o lt''. get_or-set_other s.words i (word_at s.layout site o) _ 0 (λ e. let z : ℕ = site * (2 * s.layout.places + 1) in omega arith)) refl refl;
  }

  draws_core : (id : ℕ) (v : CoreView) → get_elem? s.views id ≡ some v → 0 < v.shares → slice_index s.words (ticket_at s.layout) < 2 ^ 32 → IsCore all (moved s (ticket_at s.layout) (slice_index s.words (ticket_at s.layout) + 1) id (having_drawn v (slice_index s.words (ticket_at s.layout)) s.layout.numbers))
  draws_core id v at has low = record {
    sound = draws all s id v h.sound at has low;
    rows = elsewhere s id v h.rows at (set s.words (ticket_at s.layout) _) (having_drawn v (slice_index s.words (ticket_at s.layout)) s.layout.numbers) (λ site lt o lt'. get_or-set_other s.words (ticket_at s.layout) (word_at s.layout site o) _ 0 (λ e. let z = word_before s.layout site o lt lt' in omega arith)) refl refl;
  }

  -- a walk goes on, with the word that it found
  loads_core : (id : ℕ) (v : CoreView) → get_elem? s.views id ≡ some v → 0 < v.shares → (i : ℕ) (w : Walk) → IsOnWay s.layout s.words w → ((site k : ℕ) → walk_with site k v.walking ≤ walk_with site k (Some w)) → IsCore all (moved s i (slice_index s.words i) id (walking_on v w))
  loads_core id v at has i w way more = record {
    sound = looks all s id v h.sound at has i (walking_on v w) refl refl refl;
    rows = walks_on s id v h.rows at i w way more;
  }

  wins_core : (id : ℕ) (v : CoreView) → get_elem? s.views id ≡ some v → 0 < v.shares → (w : Walk) → v.walking ≡ Some w → key_of s w.site w.place ≡ 0 → IsCore all (moved s (key_at s.layout w.site w.place) w.key id (walking_on v (record w { winner = w.key })))
  wins_core id v at has w is empty =
      let way = h.rows.walks id v w at is in
      keeps_row_word all s id v (walking_on v (record w { winner = w.key })) h at has w.site w.place w.key way.in_sites (let z = way.in_places in omega arith) refl refl refl (claims s id v h.sound.sized h.rows at w is empty)

  pub counts_core : (id : ℕ) (v : CoreView) → get_elem? s.views id ≡ some v → 0 < v.shares → (w : Walk) → v.walking ≡ Some w → w.winner ≡ w.key → IsCore all (moved s (count_at s.layout w.site w.place) ((slice_index s.words (count_at s.layout w.site w.place) + 1) % 2 ^ 64) id (having_asked v w))
  counts_core id v at has w is won =
      let way = h.rows.walks id v w at is in
      keeps_row_word all s id v (having_asked v w) h at has w.site (s.layout.places + w.place) _ way.in_sites (let z = way.in_places in omega arith) refl refl refl (counts s id v h.sound.sized h.rows at w is won)

  pub drops_core : (id : ℕ) (v : CoreView) → get_elem? s.views id ≡ some v → 0 < v.shares → (w : Walk) → v.walking ≡ Some w → w.place + 1 ≡ s.layout.places → w.winner ≢ 0 → w.winner ≢ w.key → IsCore all (moved s (dropped_at s.layout w.site) ((slice_index s.words (dropped_at s.layout w.site) + 1) % 2 ^ 64) id (having_asked v w))
  drops_core id v at has w is last full other =
      let way = h.rows.walks id v w at is in
      keeps_row_word all s id v (having_asked v w) h at has w.site (2 * s.layout.places) _ way.in_sites (omega arith) refl refl refl (drops s id v h.sound.sized h.rows at w is last full other)

  -- who lost a claim goes on with the winner's key
  losses_core : (id : ℕ) (v : CoreView) → get_elem? s.views id ≡ some v → 0 < v.shares → (w : Walk) → v.walking ≡ Some w → IsCore all (moved s (key_at s.layout w.site w.place) (key_of s w.site w.place) id (walking_on v (record w { winner = key_of s w.site w.place })))
  losses_core id v at has w is = loads_core id v at has (key_at s.layout w.site w.place) (record w { winner = key_of s w.site w.place }) (lost_way s.layout s.words w (h.rows.walks id v w at is)) (λ site k. let e : walk_with site k v.walking ≡ walk_with site k (Some w) = ap (walk_with site k) is in omega arith)

  pub claims_core : (id : ℕ) (v : CoreView) → get_elem? s.views id ≡ some v → 0 < v.shares → (w : Walk) → v.walking ≡ Some w → IsCore all (claiming s id v w)
  claims_core id v at has w is =
      dite (ℕ_discrete (key_of s w.site w.place) 0)
      (λ empty. subst P (sym (ap (λ b. if b then w.key else key_of s w.site w.place) (eq-eqb (key_of s w.site w.place) 0 empty))) (wins_core id v at has w is empty))
      (λ full. subst P (sym (ap (λ b. if b then w.key else key_of s w.site w.place) (ne_eqb (key_of s w.site w.place) 0 full))) (losses_core id v at has w is))
    where
      P : ℕ → Type 0
      P kept = IsCore all (moved s (key_at s.layout w.site w.place) kept id (walking_on v (record w { winner = kept })))

  pub begins_core : (id : ℕ) (v : CoreView) → get_elem? s.views id ≡ some v → 0 < v.shares → v.walking ≡ None → (site key : ℕ) → site < s.layout.sites → 0 < s.layout.places → key ≢ 0 → IsCore all (looking s id v site key 0)
  begins_core id v at has rests site key lt some_place nz =
      loads_core id v at has (key_at s.layout site 0) (walk_to s site key 0) (first_way s.layout s.words site key lt some_place nz)
      (λ site' k. let e : walk_with site' k v.walking ≡ 0 = ap (walk_with site' k) rests in omega arith)

  pub goes_on_core : (id : ℕ) (v : CoreView) → get_elem? s.views id ≡ some v → 0 < v.shares → (w : Walk) → v.walking ≡ Some w → w.place + 1 < s.layout.places → w.winner ≢ 0 → w.winner ≢ w.key → IsCore all (looking s id v w.site w.key (w.place + 1))
  goes_on_core id v at has w is lt full other =
      loads_core id v at has (key_at s.layout w.site (w.place + 1)) (walk_to s w.site w.key (w.place + 1)) (next_way s.layout s.words w (w.place + 1) (h.rows.walks id v w at is) refl lt full other)
      (λ site' k. let e : walk_with site' k v.walking ≡ walk_with site' k (Some w) = ap (walk_with site' k) is in omega arith)

  pub cuts_core : (id : ℕ) (v : CoreView) → get_elem? s.views id ≡ some v → (k : ℕ) → 0 < k → k < v.shares → IsCore all (cut s id v k)
  cuts_core id v at k positive less = record { sound = splits all s id v h.sound at k positive less; rows = row_splits s id v h.rows at k }

  pub joins_core : (id : ℕ) (v : CoreView) → get_elem? s.views id ≡ some v → 0 < v.shares → (other : ℕ) (u : CoreView) → get_elem? (set s.views id (merged v u)) other ≡ some u → u.walking ≡ None → IsCore all (taking s id v other u)
  joins_core id v at has other u at_other rests = record { sound = joins all s id v h.sound at has other u at_other; rows = row_joins s id v h.rows at other u at_other rests }

pub opens_core : (l : Layout) (shares : ℕ) → IsCore shares (opening l shares)
opens_core l shares = record { sound = opens l shares; rows = row_opens l shares }

pub keep_sound : KeepSound
keep_sound all s id v h at has = record {
  adds = adds all s id v h at has;
  draws = draws all s id v h at has;
  cuts = splits all s id v h at;
  joins = joins all s id v h at has;
}

pub keep_rows : KeepRows
keep_rows all s id v h at has = record {
  begins = begins_core all s h id v at has;
  goes_on = goes_on_core all s h id v at has;
  claims = claims_core all s h id v at has;
  counts = counts_core all s h id v at has;
  drops = drops_core all s h id v at has;
  cuts = cuts_core all s h id v at;
  joins = joins_core all s h id v at has;
}

-- no word changes where one is written anew with what it was
unmoved : (s : CoreState) (i id : ℕ) (w : CoreView) → moved s i (slice_index s.words i) id w ≡ seen s id w
unmoved s i id w = λ j. core s.layout (set-get_or s.words i 0 j) (set s.views id w)

-- a look is a step from a state in which nothing moves
looks_keep : (all : ℕ) (s : CoreState) (seat : ℕ) (v : CoreView) (site key place site' key' place' : ℕ) → site ≡ site' → key ≡ key' → place ≡ place' → IsCore all (looking s seat v site key place) → IsCore all (seen s seat (walking_on v (walk_to s site' key' place')))
looks_keep all s seat v site key place site' key' place' a b c h =
    subst (λ (y : ℕ × (ℕ × ℕ)). IsCore all (seen s seat (walking_on v (walk_to s y.0 y.1.0 y.1.1)))) (λ i. (a i, (b i, c i)))
    (subst (IsCore all) (unmoved s (key_at s.layout site place) seat (walking_on v (walk_to s site key place))) h)

load_keeps : (all : ℕ) (s : CoreState) (seat site key place : ℕ) (o : Option Walk) → IsCore all s → 0 < (view_of s seat).shares → site < s.layout.sites → place < s.layout.places → (view_of s seat).walking ≡ o → can_load o site key place ≡ true → IsCore all (after s (LoadKey seat site key place))
load_keeps all s seat site key place None h has in_sites in_places is can =
    let at_first : place ≡ 0 = eqb-true place 0 (and_left _ _ can) in
    let nz = not_zero_test key (and_right (place == 0) _ can) in
    looks_keep all s seat (view_of s seat) site key 0 site key place refl refl (sym at_first)
    (begins_core all s h seat (view_of s seat) (view_at s.views seat has) has is site key in_sites (omega arith) nz)
load_keeps all s seat site key place (Some w) h has in_sites in_places is can =
    let same = and_left _ _ can in
    let go = and_right ((w.site == site) && (w.key == key)) _ can in
    let site_is : w.site ≡ site = eqb-true w.site site (and_left _ _ same) in
    let key_is : w.key ≡ key = eqb-true w.key key (and_right (w.site == site) _ same) in
    let passing = and_left _ _ go in
    let next : place ≡ w.place + 1 = eqb-true place (w.place + 1) (and_right (is_passing w) _ go) in
    let full = not_zero_test w.winner (and_left _ _ passing) in
    let other = not_equal_test w.winner w.key (and_right (not (w.winner == 0)) _ passing) in
    looks_keep all s seat (view_of s seat) w.site w.key (w.place + 1) site key place site_is key_is (sym next)
    (goes_on_core all s h seat (view_of s seat) (view_at s.views seat has) has w is (omega arith) full other)

claim_keeps : (all : ℕ) (s : CoreState) (seat place : ℕ) (o : Option Walk) → IsCore all s → 0 < (view_of s seat).shares → (view_of s seat).walking ≡ o → can_claim o place ≡ true → IsCore all (after_claim s seat o)
claim_keeps all s seat place None h has is can = h
claim_keeps all s seat place (Some w) h has is can = claims_core all s h seat (view_of s seat) (view_at s.views seat has) has w is

count_keeps : (all : ℕ) (s : CoreState) (seat place : ℕ) (o : Option Walk) → IsCore all s → 0 < (view_of s seat).shares → (view_of s seat).walking ≡ o → can_count o place ≡ true → IsCore all (after_count s seat o)
count_keeps all s seat place None h has is can = h
count_keeps all s seat place (Some w) h has is can = counts_core all s h seat (view_of s seat) (view_at s.views seat has) has w is (eqb-true w.winner w.key (and_right (w.place == place) _ can))

drop_keeps : (all : ℕ) (s : CoreState) (seat : ℕ) (o : Option Walk) → IsCore all s → 0 < (view_of s seat).shares → (view_of s seat).walking ≡ o → can_drop o s.layout.places ≡ true → IsCore all (after_drop s seat o)
drop_keeps all s seat None h has is can = h
drop_keeps all s seat (Some w) h has is can =
    let passing = and_right (w.place + 1 == s.layout.places) _ can in
    drops_core all s h seat (view_of s seat) (view_at s.views seat has) has w is
    (eqb-true (w.place + 1) s.layout.places (and_left _ _ can))
    (not_zero_test w.winner (and_left _ _ passing))
    (not_equal_test w.winner w.key (and_right (not (w.winner == 0)) _ passing))

resting_is : (o : Option Walk) → is_resting o ≡ true → o ≡ None
resting_is None e = refl
resting_is (Some w) e = absurd (true≢false (sym e))

pub step_keeps : (all : ℕ) (s : CoreState) (step : CoreStep) → IsCore all s → allowed s step ≡ true → IsCore all (after s step)
step_keeps all s (Add seat index k) h e =
    let has = ltb-true 0 _ (and_left _ _ e) in
    adds_core all s h seat (view_of s seat) (view_at s.views seat has) has index k (ltb-true index s.layout.counters (and_right (nat_lt 0 (view_of s seat).shares) _ e))
step_keeps all s (Read seat index) h e = h
step_keeps all s (LoadKey seat site key place) h e =
    let r = and_right (nat_lt 0 (view_of s seat).shares) _ e in
    let ranges = and_left _ _ r in
    load_keeps all s seat site key place (view_of s seat).walking h (ltb-true 0 _ (and_left _ _ e)) (ltb-true site s.layout.sites (and_left _ _ ranges)) (ltb-true place s.layout.places (and_right (nat_lt site s.layout.sites) _ ranges)) refl (and_right (nat_lt site s.layout.sites && nat_lt place s.layout.places) _ r)
step_keeps all s (ClaimKey seat place) h e =
    let r = and_right (nat_lt 0 (view_of s seat).shares) _ e in
    claim_keeps all s seat place (view_of s seat).walking h (ltb-true 0 _ (and_left _ _ e)) refl (and_right (nat_lt place s.layout.places) _ r)
step_keeps all s (AddCount seat place) h e =
    let r = and_right (nat_lt 0 (view_of s seat).shares) _ e in
    count_keeps all s seat place (view_of s seat).walking h (ltb-true 0 _ (and_left _ _ e)) refl (and_right (nat_lt place s.layout.places) _ r)
step_keeps all s (AddDropped seat) h e = drop_keeps all s seat (view_of s seat).walking h (ltb-true 0 _ (and_left _ _ e)) refl (and_right (nat_lt 0 (view_of s seat).shares) _ e)
step_keeps all s (Draw seat) h e =
    let has = ltb-true 0 _ (and_left _ _ e) in
    draws_core all s h seat (view_of s seat) (view_at s.views seat has) has (ltb-true _ (2 ^ 32) (and_right (nat_lt 0 (view_of s seat).shares) _ e))
step_keeps all s (Split seat k) h e =
    let r = and_right (is_resting (view_of s seat).walking) _ e in
    let positive = ltb-true 0 k (and_left _ _ r) in
    let less : k < (view_of s seat).shares = ltb-true k _ (and_right (nat_lt 0 k) _ r) in
    cuts_core all s h seat (view_of s seat) (view_at s.views seat (omega arith)) k positive less
step_keeps all s (Join seat other) h e =
    let shares = and_left _ _ e in
    let r = and_right (nat_lt 0 (view_of s seat).shares && nat_lt 0 (view_of s other).shares) _ e in
    let rest = and_right (not (seat == other)) _ r in
    let has = ltb-true 0 (view_of s seat).shares (and_left _ _ shares) in
    let other_has = ltb-true 0 (view_of s other).shares (and_right (nat_lt 0 (view_of s seat).shares) _ shares) in
    let apart = not_equal_test seat other (and_left _ _ r) in
    joins_core all s h seat (view_of s seat) (view_at s.views seat has) has other (view_of s other)
    (set_else s.views seat other (merged (view_of s seat) (view_of s other)) (λ z. apart (sym z)) ∙ view_at s.views other other_has)
    (resting_is (view_of s other).walking (and_right (is_resting (view_of s seat).walking) _ rest))
