-- Each step keeps the rows.
use Rattle.std.proofs.Common.{◌≡◌, ◌≢◌, ℕ, zero, suc, ◌+◌, ◌*◌, ◌%◌, ◌^◌, ◌<◌, ◌≤◌, Bool, true, false, List, [], ◌∷◌, ◌++◌, length, set, count_by, sum_by, Option, Some, None, sym, refl, ap, ◌∙◌, subst, arith, get_or-set_other, get_or-set_same, lt_of_lt_of_le}
use Rattle.std.proofs.Math.Nat.{mod-add-mod}
use Rattle.std.proofs.lemmas.List.Sums.{sum_by-append}
use Rattle.std.specs.Prelude.{slice_index}
use mathlib.Core.Logic.{dite}
use mathlib.Core.Option.{some, some-injective, some-ne-none}
use native.Mathlib.Decide.{ℕ_discrete, dec_lt}
use lib.ListN.{get_elem?}
use Rattle.count_core.specs.declared.state.Layout.{Layout}
use Rattle.count_core.specs.declared.state.Walk.{Walk}
use Rattle.count_core.specs.declared.state.CoreView.{CoreView}
use Rattle.count_core.specs.declared.state.CoreState.{CoreState}
use Rattle.count_core.specs.Layout.{key_at, count_at, dropped_at, word_count}
use Rattle.count_core.specs.CoreView.{fresh, spent, merged, is_at, asks, one_if, walk_with, wants, is_kept, is_missed, misses}
use Rattle.count_core.specs.CoreState.{core, opening, key_of, count_of, dropped_of, IsSite, IsOnWay, HasRows}
use Rattle.count_core.specs.CoreStep.{moved, walking_on, having_asked, lessened, cut, taking}
use Rattle.count_core.proofs.Views.{sum_same, sum_up, sum_le, sum_split, sum_join, sum_pointwise, each_set, each_push, part_le}
use Rattle.count_core.proofs.Lists.{get_or-zeros}
use Rattle.count_core.proofs.Places.{word_at, other_place, other_site, word_before}
use Rattle.count_core.proofs.Kept.{kept_yes, kept_no, kept_same, kept_more, count_push, asks-le-misses, misses-le, at_same, at_other_key, at_other_site, missed_elsewhere, missed_kept, missed_other}
use Rattle.count_core.proofs.Keeps.{get_or-rewritten}

-- A site stays a site where its words stay and no view forgets anything about it.
pub site_frame : (places : ℕ) (key count : ℕ → ℕ) (dropped site : ℕ) (views : List CoreView) (key' count' : ℕ → ℕ) (dropped' : ℕ) (views' : List CoreView)
    → IsSite places key count dropped site views
    → ((p : ℕ) → p < places → key' p ≡ key p) → ((p : ℕ) → p < places → count' p ≡ count p) → dropped' ≡ dropped
    → ((k : ℕ) → sum_by (wants site k) views ≤ sum_by (wants site k) views')
    → ((k : ℕ) → sum_by (asks site k) views' ≡ sum_by (asks site k) views)
    → ((kept : ℕ → Bool) → sum_by (misses kept site) views' ≡ sum_by (misses kept site) views)
    → IsSite places key' count' dropped' site views'
site_frame places key count dropped site views key' count' dropped' views' h K C D wanted asked missed = record {
  first = λ p q pq lt full. let r = h.first p q pq lt (λ z. full (K q lt ∙ z)) in ((λ z. r.0 (sym (K p (omega arith)) ∙ z)), (λ e. r.1 (sym (K p (omega arith)) ∙ e ∙ K q lt)));
  wanted = λ p lt full. subst (λ (k : ℕ). 0 < sum_by (wants site k) views') (sym (K p lt)) (lt_of_lt_of_le (h.wanted p lt (λ z. full (K p lt ∙ z))) (wanted (key p)));
  vacant = λ p lt empty. let r = h.vacant p lt (sym (K p lt) ∙ empty) in (C p lt ∙ r.0, missed_now ∙ r.1);
  counted = λ p lt full. C p lt ∙ h.counted p lt (λ z. full (K p lt ∙ z)) ∙ ap (λ n. n % 2 ^ 64) (sym (asked (key' p) ∙ ap (λ k. sum_by (asks site k) views) (K p lt)));
  dropped_is = D ∙ h.dropped_is ∙ ap (λ n. n % 2 ^ 64) (sym missed_now);
}
  where
    kept_now : is_kept key' places ≡ is_kept key places
    kept_now = λ i k. kept_same key key' places k K i

    missed_now : sum_by (misses (is_kept key' places) site) views' ≡ sum_by (misses (is_kept key places) site) views
    missed_now = missed (is_kept key' places) ∙ ap (λ kept. sum_by (misses kept site) views) kept_now

-- the words of a site are the same
abbrev SameSite : Layout → List ℕ → List ℕ → ℕ → Type 0
SameSite l words words' site = (o : ℕ) → o < 2 * l.places + 1 → slice_index words' (word_at l site o) ≡ slice_index words (word_at l site o)

-- the words of the rows are the same
abbrev SameRows : Layout → List ℕ → List ℕ → Type 0
SameRows l words words' = (site : ℕ) → site < l.sites → SameSite l words words' site

-- one word has one more
abbrev counted_on : CoreState → ℕ → List ℕ
counted_on s i = set s.words i ((slice_index s.words i + 1) % 2 ^ 64)

-- the views know no less of a site
pub record Remembers (views views' : List CoreView) (site : ℕ) : Type 0 where
  pub wanted : (k : ℕ) → sum_by (wants site k) views ≤ sum_by (wants site k) views'
  pub asked : (k : ℕ) → sum_by (asks site k) views' ≡ sum_by (asks site k) views
  pub missed : (kept : ℕ → Bool) → sum_by (misses kept site) views' ≡ sum_by (misses kept site) views

site_as_before : (s : CoreState) (words : List ℕ) (views : List CoreView) (site : ℕ) → SameSite s.layout s.words words site → Remembers s.views views site → IsSite s.layout.places (key_of s site) (count_of s site) (dropped_of s site) site s.views → IsSite s.layout.places (key_of (core s.layout words views) site) (count_of (core s.layout words views) site) (dropped_of (core s.layout words views) site) site views
site_as_before s words views site same r h =
    site_frame s.layout.places (key_of s site) (count_of s site) (dropped_of s site) site s.views _ _ _ views h
    (λ p q. same p (omega arith))
    (λ p q. same (s.layout.places + p) (omega arith))
    (same (2 * s.layout.places) (omega arith))
    r.wanted r.asked r.missed

-- a walk stays on its way where the keys stay
on_way : (l : Layout) (words words' : List ℕ) (w : Walk) → IsOnWay l words w → ((p : ℕ) → p < l.places → slice_index words (key_at l w.site p) ≢ 0 → slice_index words' (key_at l w.site p) ≡ slice_index words (key_at l w.site p)) → IsOnWay l words' w
on_way l words words' w h same = record {
  in_sites = h.in_sites;
  in_places = h.in_places;
  has_key = h.has_key;
  passed = λ p lt. let r = h.passed p lt in let e = same p (let z = h.in_places in omega arith) r.0 in ((λ z. r.0 (sym e ∙ z)), (λ k. r.1 (sym e ∙ k)));
  found = λ full. let e = h.found full in same w.place h.in_places (λ z. full (sym e ∙ z)) ∙ e;
}

walks_set : (l : Layout) (words words' : List ℕ) (views : List CoreView) (id : ℕ) (u : CoreView) → ((j : ℕ) (v : CoreView) (w : Walk) → get_elem? views j ≡ some v → v.walking ≡ Some w → IsOnWay l words w) → ((site p : ℕ) → site < l.sites → p < l.places → slice_index words (key_at l site p) ≢ 0 → slice_index words' (key_at l site p) ≡ slice_index words (key_at l site p)) → ((w : Walk) → u.walking ≡ Some w → IsOnWay l words' w) → (j : ℕ) (v : CoreView) (w : Walk) → get_elem? (set views id u) j ≡ some v → v.walking ≡ Some w → IsOnWay l words' w
walks_set l words words' views id u walks same mine j v w e is =
    each_set (λ _ x. (w : Walk) → x.walking ≡ Some w → IsOnWay l words' w) views id u
    (λ i x at y y_is. let h = walks i x y at y_is in on_way l words words' y h (λ p lt. same y.site p h.in_sites lt))
    mine j v e w is

module _ (s : CoreState) (id : ℕ) (v : CoreView) where
  -- the view of a seat changes, and what it asked for does not
  remembers : get_elem? s.views id ≡ some v → (w : CoreView) → w.asked ≡ v.asked → (site : ℕ) → ((k : ℕ) → walk_with site k v.walking ≤ walk_with site k w.walking) → Remembers s.views (set s.views id w) site
  remembers at w same site more = record {
    wanted = λ k. sum_le (wants site k) s.views id v w at (let e : asks site k w ≡ asks site k v = ap (λ l. count_by (is_at site k) l) same in let m = more k in omega arith);
    asked = λ k. sum_same (asks site k) s.views id v w at (ap (λ l. count_by (is_at site k) l) same);
    missed = λ kept. sum_same (misses kept site) s.views id v w at (ap (λ l. count_by (is_missed kept site) l) same);
  }

  -- a word that is none of the rows' changes
  pub elsewhere : HasRows s → get_elem? s.views id ≡ some v → (words : List ℕ) (w : CoreView) → SameRows s.layout s.words words → w.asked ≡ v.asked → w.walking ≡ v.walking → HasRows (core s.layout words (set s.views id w))
  elsewhere h at words w same asked walking = record {
    sites = λ site lt. site_as_before s words (set s.views id w) site (same site lt) (remembers at w asked site (λ k. let e : walk_with site k w.walking ≡ walk_with site k v.walking = ap (walk_with site k) walking in omega arith)) (h.sites site lt);
    walks = walks_set s.layout s.words words s.views id w h.walks (λ site p lt lt' _. same site lt p (omega arith)) (λ x is. let y = h.walks id v x at (sym walking ∙ is) in on_way s.layout s.words words x y (λ p lt _. same x.site y.in_sites p (omega arith)));
  }

  -- a walk goes on, and no word changes
  pub walks_on : HasRows s → get_elem? s.views id ≡ some v → (i : ℕ) (w : Walk) → IsOnWay s.layout s.words w → ((site k : ℕ) → walk_with site k v.walking ≤ walk_with site k (Some w)) → HasRows (moved s i (slice_index s.words i) id (walking_on v w))
  walks_on h at i w way more = record {
    sites = λ site lt. site_as_before s words (set s.views id u) site (same site lt) (remembers at u refl site (more site)) (h.sites site lt);
    walks = walks_set s.layout s.words words s.views id u h.walks (λ site p lt lt' _. same site lt p (omega arith)) (λ x is. subst (λ (x : Walk). IsOnWay s.layout words x) (some_walk is) (on_way s.layout s.words words w way (λ p lt _. same w.site way.in_sites p (omega arith))));
  }
    where
      words : List ℕ
      words = set s.words i (slice_index s.words i)

      u : CoreView
      u = walking_on v w

      same : SameRows s.layout s.words words
      same site lt o lt' = get_or-rewritten s.words i (word_at s.layout site o)

      some_walk : {x : Walk} → Some w ≡ Some x → w ≡ x
      some_walk e = cc

  -- an empty place is claimed for the walk's key
  pub claims : length s.words ≡ word_count s.layout → HasRows s → get_elem? s.views id ≡ some v → (w : Walk) → v.walking ≡ Some w → key_of s w.site w.place ≡ 0 → HasRows (moved s (key_at s.layout w.site w.place) w.key id (walking_on v (record w { winner = w.key })))
  claims sized h at w is empty = record {
    sites = λ site lt. dite (ℕ_discrete site w.site) (λ e. subst (λ (site : ℕ). IsSite s.layout.places (key_of t site) (count_of t site) (dropped_of t site) site views) (sym e) mine) (λ ne. site_as_before s words views site (other_words site ne) (remembered site) (h.sites site lt));
    walks = walks_set s.layout s.words words s.views id u h.walks same_key (λ x x_is. subst (λ (x : Walk). IsOnWay s.layout words x) (the_walk x_is) claimed_way);
  }
    where
      at_key : ℕ
      at_key = key_at s.layout w.site w.place

      words : List ℕ
      words = set s.words at_key w.key

      w' : Walk
      w' = record w { winner = w.key }

      u : CoreView
      u = walking_on v w'

      views : List CoreView
      views = set s.views id u

      t : CoreState
      t = core s.layout words views

      way : IsOnWay s.layout s.words w
      way = h.walks id v w at is

      site_before : IsSite s.layout.places (key_of s w.site) (count_of s w.site) (dropped_of s w.site) w.site s.views
      site_before = h.sites w.site way.in_sites

      the_walk : {x : Walk} → Some w' ≡ Some x → w' ≡ x
      the_walk e = cc

      remembered : (site : ℕ) → Remembers s.views views site
      remembered site = remembers at u refl site (λ k. let e : walk_with site k v.walking ≡ walk_with site k (Some w') = ap (walk_with site k) is in omega arith)

      same_key : (site p : ℕ) → site < s.layout.sites → p < s.layout.places → slice_index s.words (key_at s.layout site p) ≢ 0 → slice_index words (key_at s.layout site p) ≡ slice_index s.words (key_at s.layout site p)
      same_key site p lt lt' full = get_or-set_other s.words at_key (key_at s.layout site p) w.key 0 (λ e. full (ap (slice_index s.words) e ∙ empty))

      other_words : (site : ℕ) → site ≢ w.site → SameSite s.layout s.words words site
      other_words site ne o lt = get_or-set_other s.words at_key (word_at s.layout site o) w.key 0 (other_site s.layout site o w.site w.place lt (let z = way.in_places in omega arith) ne)

      here : key_of t w.site w.place ≡ w.key
      here = get_or-set_same s.words at_key w.key 0 (let z = word_before s.layout w.site w.place way.in_sites (let z = way.in_places in omega arith) in omega arith)

      there : (o : ℕ) → o < 2 * s.layout.places + 1 → o ≢ w.place → slice_index words (word_at s.layout w.site o) ≡ slice_index s.words (word_at s.layout w.site o)
      there o lt ne = get_or-set_other s.words at_key (word_at s.layout w.site o) w.key 0 (other_place s.layout w.site o w.site w.place lt (let z = way.in_places in omega arith) ne)

      key_there : (p : ℕ) → p < s.layout.places → p ≢ w.place → key_of t w.site p ≡ key_of s w.site p
      key_there p lt ne = there p (omega arith) ne

      claimed_way : IsOnWay s.layout words w'
      claimed_way = record {
        in_sites = way.in_sites;
        in_places = way.in_places;
        has_key = way.has_key;
        passed = λ p lt. let r = way.passed p lt in let e = key_there p (let z = way.in_places in omega arith) (omega arith) in ((λ z. r.0 (sym e ∙ z)), (λ k. r.1 (sym e ∙ k)));
        found = λ _. here;
      }

      after_place : (p : ℕ) → p < s.layout.places → w.place < p → key_of s w.site p ≢ 0 → ⊥
      after_place p lt lt' full = (site_before.first w.place p lt' lt full).0 empty

      new_key : is_kept (key_of s w.site) s.layout.places w.key ≡ false
      new_key = kept_no (key_of s w.site) s.layout.places w.key
          (λ p lt full e. dite (ℕ_discrete p w.place)
          (λ same. full (ap (key_of s w.site) same ∙ empty))
          (λ ne. dite (dec_lt p w.place) (λ less. (way.passed p less).1 e) (λ more. after_place p lt (omega arith) full)))

      keeps_more : (k : ℕ) → is_kept (key_of s w.site) s.layout.places k ≡ true → is_kept (key_of t w.site) s.layout.places k ≡ true
      keeps_more k = kept_more (key_of s w.site) (key_of t w.site) s.layout.places k (λ p lt full. same_key w.site p way.in_sites lt full)

      nothing_missed : sum_by (misses (is_kept (key_of s w.site) s.layout.places) w.site) s.views ≡ 0
      nothing_missed = (site_before.vacant w.place way.in_places empty).1

      missed_now : sum_by (misses (is_kept (key_of t w.site) s.layout.places) w.site) views ≡ 0
      missed_now =
          let e = (remembered w.site).missed (is_kept (key_of t w.site) s.layout.places) in
          let le = sum_pointwise (misses (is_kept (key_of t w.site) s.layout.places) w.site) (misses (is_kept (key_of s w.site) s.layout.places) w.site) s.views (λ _ x _. misses-le _ _ w.site x keeps_more) in
          let none = nothing_missed in
          omega arith

      never_asked : sum_by (asks w.site w.key) views ≡ 0
      never_asked =
          let e = (remembered w.site).asked w.key in
          let le = sum_pointwise (asks w.site w.key) (misses (is_kept (key_of s w.site) s.layout.places) w.site) s.views (λ _ x _. asks-le-misses _ w.site w.key x new_key) in
          let none = nothing_missed in
          omega arith

      wanted_here : 0 < sum_by (wants w.site w.key) views
      wanted_here =
          let walks : walk_with w.site w.key v.walking ≡ 1 = ap (walk_with w.site w.key) is ∙ ap one_if (at_same w.site w.key) in
          let le = part_le (wants w.site w.key) s.views id v at in
          let more = (remembered w.site).wanted w.key in
          omega arith

      count_same : (p : ℕ) → p < s.layout.places → count_of t w.site p ≡ count_of s w.site p
      count_same p lt = there (s.layout.places + p) (omega arith) (let z = way.in_places in (λ e. omega arith))

      mine : IsSite s.layout.places (key_of t w.site) (count_of t w.site) (dropped_of t w.site) w.site views
      mine = record {
        first = λ p q pq lt full. dite (ℕ_discrete q w.place)
            (λ same.
            let r = way.passed p (omega arith) in
            let e = key_there p (omega arith) (omega arith) in
            let f : key_of t w.site q ≡ w.key = ap (key_of t w.site) same ∙ here in
            ((λ z. r.0 (sym e ∙ z)), (λ k. r.1 (sym e ∙ k ∙ f))))
            (λ ne.
            let f = key_there q lt ne in
            let r = site_before.first p q pq lt (λ z. full (f ∙ z)) in
            let e = same_key w.site p way.in_sites (omega arith) r.0 in
            ((λ z. r.0 (sym e ∙ z)), (λ k. r.1 (sym e ∙ k ∙ f))));
        wanted = λ p lt full. dite (ℕ_discrete p w.place)
            (λ same. subst (λ (k : ℕ). 0 < sum_by (wants w.site k) views) (sym (ap (key_of t w.site) same ∙ here)) wanted_here)
            (λ ne. let e = key_there p lt ne in subst (λ (k : ℕ). 0 < sum_by (wants w.site k) views) (sym e) (lt_of_lt_of_le (site_before.wanted p lt (λ z. full (e ∙ z))) ((remembered w.site).wanted (key_of s w.site p))));
        vacant = λ p lt none. dite (ℕ_discrete p w.place)
            (λ same. absurd (way.has_key (sym (ap (key_of t w.site) same ∙ here) ∙ none)))
            (λ ne. (count_same p lt ∙ (site_before.vacant p lt (sym (key_there p lt ne) ∙ none)).0, missed_now));
        counted = λ p lt full. dite (ℕ_discrete p w.place)
            (λ same. count_same p lt ∙ ap (count_of s w.site) same ∙ (site_before.vacant w.place way.in_places empty).0 ∙ sym (ap (λ n. n % 2 ^ 64) (ap (λ k. sum_by (asks w.site k) views) (ap (key_of t w.site) same ∙ here) ∙ never_asked)))
            (λ ne. let e = key_there p lt ne in count_same p lt ∙ site_before.counted p lt (λ z. full (e ∙ z)) ∙ ap (λ n. n % 2 ^ 64) (sym (ap (λ k. sum_by (asks w.site k) views) e ∙ (remembered w.site).asked (key_of s w.site p))));
        dropped_is = there (2 * s.layout.places) (omega arith) (let z = way.in_places in (λ e. omega arith)) ∙ site_before.dropped_is ∙ ap (λ n. n % 2 ^ 64) (nothing_missed ∙ sym missed_now);
      }

  module _ (sized : length s.words ≡ word_count s.layout) (h : HasRows s) (at : get_elem? s.views id ≡ some v) (w : Walk) (is : v.walking ≡ Some w) where
    asks_after : (site k : ℕ) → sum_by (asks site k) (set s.views id (having_asked v w)) ≡ sum_by (asks site k) s.views + one_if (is_at site k (w.site, w.key))
    asks_after site k = sum_up (asks site k) s.views id (one_if (is_at site k (w.site, w.key))) v (having_asked v w) at (count_push (is_at site k) v.asked (w.site, w.key))

    misses_after : (kept : ℕ → Bool) (site : ℕ) → sum_by (misses kept site) (set s.views id (having_asked v w)) ≡ sum_by (misses kept site) s.views + one_if (is_missed kept site (w.site, w.key))
    misses_after kept site = sum_up (misses kept site) s.views id (one_if (is_missed kept site (w.site, w.key))) v (having_asked v w) at (count_push (is_missed kept site) v.asked (w.site, w.key))

    -- the walk becomes an ask
    wants_after : (site k : ℕ) → sum_by (wants site k) s.views ≤ sum_by (wants site k) (set s.views id (having_asked v w))
    wants_after site k =
        let p : asks site k (having_asked v w) ≡ asks site k v + one_if (is_at site k (w.site, w.key)) = count_push (is_at site k) v.asked (w.site, w.key) in
        let e : walk_with site k v.walking ≡ one_if (is_at site k (w.site, w.key)) = ap (walk_with site k) is in
        sum_le (wants site k) s.views id v (having_asked v w) at (omega arith)

    asked_elsewhere : (site : ℕ) → site ≢ w.site → Remembers s.views (set s.views id (having_asked v w)) site
    asked_elsewhere site ne = record {
      wanted = wants_after site;
      asked = λ k. let e : one_if (is_at site k (w.site, w.key)) ≡ 0 = ap one_if (at_other_site site k w.site w.key (λ z. ne (sym z))) in let a = asks_after site k in omega arith;
      missed = λ kept. let e : one_if (is_missed kept site (w.site, w.key)) ≡ 0 = ap one_if (missed_elsewhere kept site w.site w.key (λ z. ne (sym z))) in let a = misses_after kept site in omega arith;
    }

    -- the word at offset o of the walk's site, which is no key, has one more
    module _ (o : ℕ) (inside : o < 2 * s.layout.places + 1) (past_keys : s.layout.places ≤ o) where
      other_word : (site p : ℕ) → p < 2 * s.layout.places + 1 → word_at s.layout site p ≢ word_at s.layout w.site o → slice_index (counted_on s (word_at s.layout w.site o)) (word_at s.layout site p) ≡ slice_index s.words (word_at s.layout site p)
      other_word site p lt ne = get_or-set_other s.words (word_at s.layout w.site o) (word_at s.layout site p) _ 0 ne

      beside_it : (p : ℕ) → p < 2 * s.layout.places + 1 → p ≢ o → slice_index (counted_on s (word_at s.layout w.site o)) (word_at s.layout w.site p) ≡ slice_index s.words (word_at s.layout w.site p)
      beside_it p lt ne = other_word w.site p lt (other_place s.layout w.site p w.site o lt inside ne)

      raised_word : slice_index (counted_on s (word_at s.layout w.site o)) (word_at s.layout w.site o) ≡ (slice_index s.words (word_at s.layout w.site o) + 1) % 2 ^ 64
      raised_word = let way = h.walks id v w at is in let z = word_before s.layout w.site o way.in_sites inside in get_or-set_same s.words (word_at s.layout w.site o) _ 0 (omega arith)

      -- the other sites and the walks are as before
      ends : (let t = core s.layout (counted_on s (word_at s.layout w.site o)) (set s.views id (having_asked v w)) in IsSite s.layout.places (key_of t w.site) (count_of t w.site) (dropped_of t w.site) w.site t.views) → HasRows (core s.layout (counted_on s (word_at s.layout w.site o)) (set s.views id (having_asked v w)))
      ends mine = record {
        sites = λ site lt. dite (ℕ_discrete site w.site) (λ e. subst (λ (site : ℕ). IsSite s.layout.places (key_of t site) (count_of t site) (dropped_of t site) site t.views) (sym e) mine) (λ ne. site_as_before s t.words t.views site (λ p lt'. other_word site p lt' (other_site s.layout site p w.site o lt' inside ne)) (asked_elsewhere site ne) (h.sites site lt));
        walks = walks_set s.layout s.words t.words s.views id (having_asked v w) h.walks (λ site p _ lt _. other_word site p (omega arith) (other_place s.layout site p w.site o (omega arith) inside (λ e. omega arith))) (λ x none. absurd (no_walk none));
      }
        where
          t : CoreState
          t = core s.layout (counted_on s (word_at s.layout w.site o)) (set s.views id (having_asked v w))

          no_walk : {x : Walk} → ◌≡◌ {A = Option Walk} None (Some x) → ⊥
          no_walk e = cc

    -- the count of the place that has the walk's key
    pub counts : w.winner ≡ w.key → HasRows (moved s (count_at s.layout w.site w.place) ((count_of s w.site w.place + 1) % 2 ^ 64) id (having_asked v w))
    counts won = ends (s.layout.places + w.place) (let z = way.in_places in omega arith) (omega arith) mine
      where
        t : CoreState
        t = core s.layout (counted_on s (count_at s.layout w.site w.place)) (set s.views id (having_asked v w))

        way : IsOnWay s.layout s.words w
        way = h.walks id v w at is

        site_before : IsSite s.layout.places (key_of s w.site) (count_of s w.site) (dropped_of s w.site) w.site s.views
        site_before = h.sites w.site way.in_sites

        inside : s.layout.places + w.place < 2 * s.layout.places + 1
        inside = let z = way.in_places in omega arith

        same : (p : ℕ) → p < 2 * s.layout.places + 1 → p ≢ s.layout.places + w.place → slice_index t.words (word_at s.layout w.site p) ≡ slice_index s.words (word_at s.layout w.site p)
        same = beside_it (s.layout.places + w.place) inside (omega arith)

        key_same : (p : ℕ) → p < s.layout.places → key_of t w.site p ≡ key_of s w.site p
        key_same p lt = same p (omega arith) (λ e. omega arith)

        count_same : (p : ℕ) → p < s.layout.places → p ≢ w.place → count_of t w.site p ≡ count_of s w.site p
        count_same p lt ne = same (s.layout.places + p) (omega arith) (λ e. ne (omega arith))

        its_key : key_of s w.site w.place ≡ w.key
        its_key = way.found (λ z. way.has_key (sym won ∙ z)) ∙ won

        kept_now : is_kept (key_of t w.site) s.layout.places ≡ is_kept (key_of s w.site) s.layout.places
        kept_now = λ i k. kept_same (key_of s w.site) (key_of t w.site) s.layout.places k key_same i

        kept_key : is_kept (key_of s w.site) s.layout.places w.key ≡ true
        kept_key = subst (λ (k : ℕ). is_kept (key_of s w.site) s.layout.places k ≡ true) its_key (kept_yes (key_of s w.site) s.layout.places w.place way.in_places (λ z. way.has_key (sym its_key ∙ z)))

        missed_now : sum_by (misses (is_kept (key_of t w.site) s.layout.places) w.site) t.views ≡ sum_by (misses (is_kept (key_of s w.site) s.layout.places) w.site) s.views
        missed_now =
            let e : one_if (is_missed (is_kept (key_of s w.site) s.layout.places) w.site (w.site, w.key)) ≡ 0 = ap one_if (missed_kept (is_kept (key_of s w.site) s.layout.places) w.site w.site w.key kept_key) in
            let a = misses_after (is_kept (key_of s w.site) s.layout.places) w.site in
            ap (λ kept. sum_by (misses kept w.site) t.views) kept_now ∙ (let z : sum_by (misses (is_kept (key_of s w.site) s.layout.places) w.site) t.views ≡ sum_by (misses (is_kept (key_of s w.site) s.layout.places) w.site) s.views = omega arith in z)

        apart : (p : ℕ) → p < s.layout.places → p ≢ w.place → key_of s w.site p ≢ 0 → w.key ≢ key_of s w.site p
        apart p lt ne full e =
            dite (dec_lt p w.place)
            (λ less. (way.passed p less).1 (sym e))
            (λ more. (site_before.first w.place p (omega arith) lt full).1 (its_key ∙ e))

        asked_here : sum_by (asks w.site w.key) t.views ≡ sum_by (asks w.site w.key) s.views + 1
        asked_here = asks_after w.site w.key ∙ ap (λ b. sum_by (asks w.site w.key) s.views + one_if b) (at_same w.site w.key)

        asked_there : (k : ℕ) → w.key ≢ k → sum_by (asks w.site k) t.views ≡ sum_by (asks w.site k) s.views
        asked_there k ne = let e : one_if (is_at w.site k (w.site, w.key)) ≡ 0 = ap one_if (at_other_key w.site k w.site w.key ne) in let a = asks_after w.site k in omega arith

        count_here : count_of t w.site w.place ≡ sum_by (asks w.site w.key) t.views % 2 ^ 64
        count_here =
            raised_word (s.layout.places + w.place) inside (omega arith)
            ∙ ap (λ n. (n + 1) % 2 ^ 64) (site_before.counted w.place way.in_places (λ z. way.has_key (sym its_key ∙ z)))
            ∙ mod-add-mod (sum_by (asks w.site (key_of s w.site w.place)) s.views) (2 ^ 64) 1
            ∙ ap (λ k. (sum_by (asks w.site k) s.views + 1) % 2 ^ 64) its_key
            ∙ ap (λ n. n % 2 ^ 64) (sym asked_here)

        mine : IsSite s.layout.places (key_of t w.site) (count_of t w.site) (dropped_of t w.site) w.site t.views
        mine = record {
          first = λ p q pq lt full. let e = key_same q lt in let f = key_same p (omega arith) in let r = site_before.first p q pq lt (λ z. full (e ∙ z)) in ((λ z. r.0 (sym f ∙ z)), (λ k. r.1 (sym f ∙ k ∙ e)));
          wanted = λ p lt full. let e = key_same p lt in subst (λ (k : ℕ). 0 < sum_by (wants w.site k) t.views) (sym e) (lt_of_lt_of_le (site_before.wanted p lt (λ z. full (e ∙ z))) (wants_after w.site (key_of s w.site p)));
          vacant = λ p lt none.
              let e = key_same p lt in
              let r = site_before.vacant p lt (sym e ∙ none) in
              let ne : p ≢ w.place = λ here. way.has_key (sym its_key ∙ sym (ap (key_of s w.site) here) ∙ sym e ∙ none) in
              (count_same p lt ne ∙ r.0, missed_now ∙ r.1);
          counted = λ p lt full. let e = key_same p lt in dite (ℕ_discrete p w.place)
              (λ here. ap (count_of t w.site) here ∙ count_here ∙ ap (λ k. sum_by (asks w.site k) t.views % 2 ^ 64) (sym (e ∙ ap (key_of s w.site) here ∙ its_key)))
              (λ ne. count_same p lt ne ∙ site_before.counted p lt (λ z. full (e ∙ z)) ∙ ap (λ n. n % 2 ^ 64) (sym (ap (λ k. sum_by (asks w.site k) t.views) e ∙ asked_there (key_of s w.site p) (apart p lt ne (λ z. full (e ∙ z))))));
          dropped_is = same (2 * s.layout.places) (omega arith) (let z = way.in_places in (λ e. omega arith)) ∙ site_before.dropped_is ∙ ap (λ n. n % 2 ^ 64) (sym missed_now);
        }

    -- the dropped word, where every place has another key
    pub drops : w.place + 1 ≡ s.layout.places → w.winner ≢ 0 → w.winner ≢ w.key → HasRows (moved s (dropped_at s.layout w.site) ((dropped_of s w.site + 1) % 2 ^ 64) id (having_asked v w))
    drops last full other = ends (2 * s.layout.places) inside (omega arith) mine
      where
        t : CoreState
        t = core s.layout (counted_on s (dropped_at s.layout w.site)) (set s.views id (having_asked v w))

        way : IsOnWay s.layout s.words w
        way = h.walks id v w at is

        site_before : IsSite s.layout.places (key_of s w.site) (count_of s w.site) (dropped_of s w.site) w.site s.views
        site_before = h.sites w.site way.in_sites

        inside : 2 * s.layout.places < 2 * s.layout.places + 1
        inside = omega arith

        same : (p : ℕ) → p < 2 * s.layout.places + 1 → p ≢ 2 * s.layout.places → slice_index t.words (word_at s.layout w.site p) ≡ slice_index s.words (word_at s.layout w.site p)
        same = beside_it (2 * s.layout.places) inside (omega arith)

        key_same : (p : ℕ) → p < s.layout.places → key_of t w.site p ≡ key_of s w.site p
        key_same p lt = same p (omega arith) (λ e. omega arith)

        other_key : (p : ℕ) → p < s.layout.places → (key_of s w.site p ≢ 0) × (key_of s w.site p ≢ w.key)
        other_key p lt =
            dite (ℕ_discrete p w.place)
            (λ here. let e = ap (key_of s w.site) here ∙ way.found full in ((λ z. full (sym e ∙ z)), (λ k. other (sym e ∙ k))))
            (λ ne. way.passed p (omega arith))

        kept_now : is_kept (key_of t w.site) s.layout.places ≡ is_kept (key_of s w.site) s.layout.places
        kept_now = λ i k. kept_same (key_of s w.site) (key_of t w.site) s.layout.places k key_same i

        missed_now : sum_by (misses (is_kept (key_of t w.site) s.layout.places) w.site) t.views ≡ sum_by (misses (is_kept (key_of s w.site) s.layout.places) w.site) s.views + 1
        missed_now =
            ap (λ kept. sum_by (misses kept w.site) t.views) kept_now
            ∙ misses_after (is_kept (key_of s w.site) s.layout.places) w.site
            ∙ ap (λ b. sum_by (misses (is_kept (key_of s w.site) s.layout.places) w.site) s.views + one_if b) (missed_other (is_kept (key_of s w.site) s.layout.places) w.site w.key (kept_no (key_of s w.site) s.layout.places w.key (λ p lt _. (other_key p lt).1)))

        asked_there : (k : ℕ) → w.key ≢ k → sum_by (asks w.site k) t.views ≡ sum_by (asks w.site k) s.views
        asked_there k ne = let e : one_if (is_at w.site k (w.site, w.key)) ≡ 0 = ap one_if (at_other_key w.site k w.site w.key ne) in let a = asks_after w.site k in omega arith

        mine : IsSite s.layout.places (key_of t w.site) (count_of t w.site) (dropped_of t w.site) w.site t.views
        mine = record {
          first = λ p q pq lt nz. let e = key_same q lt in let f = key_same p (omega arith) in let r = site_before.first p q pq lt (λ z. nz (e ∙ z)) in ((λ z. r.0 (sym f ∙ z)), (λ k. r.1 (sym f ∙ k ∙ e)));
          wanted = λ p lt nz. let e = key_same p lt in subst (λ (k : ℕ). 0 < sum_by (wants w.site k) t.views) (sym e) (lt_of_lt_of_le (site_before.wanted p lt (λ z. nz (e ∙ z))) (wants_after w.site (key_of s w.site p)));
          vacant = λ p lt none. absurd ((other_key p lt).0 (sym (key_same p lt) ∙ none));
          counted = λ p lt nz.
              let e = key_same p lt in
              same (s.layout.places + p) (omega arith) (λ z. omega arith)
              ∙ site_before.counted p lt (λ z. nz (e ∙ z))
              ∙ ap (λ n. n % 2 ^ 64) (sym (ap (λ k. sum_by (asks w.site k) t.views) e ∙ asked_there (key_of s w.site p) (λ k. (other_key p lt).1 (sym k))));
          dropped_is =
              raised_word (2 * s.layout.places) inside (omega arith)
              ∙ ap (λ n. (n + 1) % 2 ^ 64) site_before.dropped_is
              ∙ mod-add-mod (sum_by (misses (is_kept (key_of s w.site) s.layout.places) w.site) s.views) (2 ^ 64) 1
              ∙ ap (λ n. n % 2 ^ 64) (sym missed_now);
        }

  -- a view is cut in two
  pub row_splits : HasRows s → get_elem? s.views id ≡ some v → (k : ℕ) → HasRows (cut s id v k)
  row_splits h at k = record {
    sites = λ site lt. site_as_before s s.words _ site (λ o _. refl) (remembered site) (h.sites site lt);
    walks = λ j u w e is. each_push (λ x. (w : Walk) → x.walking ≡ Some w → IsOnWay s.layout s.words w) (set s.views id left) (fresh k) (λ i x x_at y y_is. walks_set s.layout s.words s.words s.views id left h.walks (λ _ _ _ _ _. refl) (λ z z_is. h.walks id v z at z_is) i x y x_at y_is) (λ y none. absurd (no_walk none)) j u e w is;
  }
    where
      left : CoreView
      left = lessened v k

      no_walk : {x : Walk} → ◌≡◌ {A = Option Walk} None (Some x) → ⊥
      no_walk e = cc

      remembered : (site : ℕ) → Remembers s.views (set s.views id left ++ fresh k ∷ []) site
      remembered site = record {
        wanted = λ key. let e = sum_split (wants site key) s.views id v left (fresh k) at (omega arith) in omega arith;
        asked = λ key. sum_split (asks site key) s.views id v left (fresh k) at (omega arith);
        missed = λ kept. sum_split (misses kept site) s.views id v left (fresh k) at (omega arith);
      }

  -- a view takes in another, which has no walk
  pub row_joins : HasRows s → get_elem? s.views id ≡ some v → (other : ℕ) (u : CoreView) → get_elem? (set s.views id (merged v u)) other ≡ some u → u.walking ≡ None → HasRows (taking s id v other u)
  row_joins h at other u at_other rests = record {
    sites = λ site lt. site_as_before s s.words _ site (λ o _. refl) (remembered site) (h.sites site lt);
    walks = walks_set s.layout s.words s.words (set s.views id both) other spent (walks_set s.layout s.words s.words s.views id both h.walks (λ _ _ _ _ _. refl) (λ z z_is. h.walks id v z at z_is)) (λ _ _ _ _ _. refl) (λ y none. absurd (no_walk none));
  }
    where
      both : CoreView
      both = merged v u

      no_walk : {x : Walk} → ◌≡◌ {A = Option Walk} None (Some x) → ⊥
      no_walk e = cc

      remembered : (site : ℕ) → Remembers s.views (set (set s.views id both) other spent) site
      remembered site = record {
        wanted = λ key.
            let n : walk_with site key u.walking ≡ 0 = ap (walk_with site key) rests in
            let a : asks site key both ≡ asks site key v + asks site key u = sum_by-append (λ e. one_if (is_at site key e)) v.asked u.asked in
            let e = sum_join (wants site key) s.views id other v u both spent at at_other (omega arith) in
            omega arith;
        asked = λ key. sum_join (asks site key) s.views id other v u both spent at at_other (let a : asks site key both ≡ asks site key v + asks site key u = sum_by-append (λ e. one_if (is_at site key e)) v.asked u.asked in omega arith);
        missed = λ kept. sum_join (misses kept site) s.views id other v u both spent at at_other (let a : misses kept site both ≡ misses kept site v + misses kept site u = sum_by-append (λ e. one_if (is_missed kept site e)) v.asked u.asked in omega arith);
      }

-- a walk begins at the first place
pub first_way : (l : Layout) (words : List ℕ) (site key : ℕ) → site < l.sites → 0 < l.places → key ≢ 0 → IsOnWay l words record { site = site; key = key; place = 0; winner = slice_index words (key_at l site 0) }
first_way l words site key lt some_place nz = record {
  in_sites = lt;
  in_places = some_place;
  has_key = nz;
  passed = λ p less. absurd (omega arith);
  found = λ _. refl;
}

-- and goes on to the next, where its place has another key
pub next_way : (l : Layout) (words : List ℕ) (w : Walk) (place : ℕ) → IsOnWay l words w → place ≡ w.place + 1 → place < l.places → w.winner ≢ 0 → w.winner ≢ w.key → IsOnWay l words record { site = w.site; key = w.key; place = place; winner = slice_index words (key_at l w.site place) }
next_way l words w place way next lt full other = record {
  in_sites = way.in_sites;
  in_places = lt;
  has_key = way.has_key;
  passed = λ p less. dite (ℕ_discrete p w.place)
      (λ here. let e = ap (λ p. slice_index words (key_at l w.site p)) here ∙ way.found full in ((λ z. full (sym e ∙ z)), (λ k. other (sym e ∙ k))))
      (λ ne. way.passed p (omega arith));
  found = λ _. refl;
}

-- who found an empty place and lost it looks at the winner
pub lost_way : (l : Layout) (words : List ℕ) (w : Walk) → IsOnWay l words w → IsOnWay l words (record w { winner = slice_index words (key_at l w.site w.place) })
lost_way l words w way = record {
  in_sites = way.in_sites;
  in_places = way.in_places;
  has_key = way.has_key;
  passed = way.passed;
  found = λ _. refl;
}

pub row_opens : (l : Layout) (shares : ℕ) → HasRows (opening l shares)
row_opens l shares = record {
  sites = λ site lt. record {
    first = λ p q pq less full. absurd (full (zeros (key_at l site q)));
    wanted = λ p less full. absurd (full (zeros (key_at l site p)));
    vacant = λ p less none. (zeros (count_at l site p), refl);
    counted = λ p less full. absurd (full (zeros (key_at l site p)));
    dropped_is = zeros (dropped_at l site);
  };
  walks = resting;
}
  where
    zeros : (i : ℕ) → slice_index (opening l shares).words i ≡ 0
    zeros i = get_or-zeros (word_count l) i

    no_walk : {x : Walk} → ◌≡◌ {A = Option Walk} None (Some x) → ⊥
    no_walk e = cc

    resting : (id : ℕ) (v : CoreView) (w : Walk) → get_elem? (fresh shares ∷ []) id ≡ some v → v.walking ≡ Some w → IsOnWay l (opening l shares).words w
    resting zero v w e is = absurd (no_walk (ap (λ (x : CoreView). x.walking) (some-injective _ _ e) ∙ is))
    resting (suc id) v w e is = absurd (some-ne-none v (sym e))
