-- The row of a site is exact, where one seat holds all shares and rests.
use Rattle.std.proofs.Common.{◌≡◌, ◌≢◌, ℕ, ◌%◌, ◌^◌, ◌<◌, ◌≤◌, Bool, true, false, not, ◌==◌, eqb-true, List, [], ◌∷◌, length, get_or, count_by, sum_by, None, sym, refl, ap, ◌∙◌, subst, arith, ⊎_elim, slice_index_or, zero-add, mod-eq_of_lt, All, Contains}
use Rattle.std.proofs.lemmas.Bool.{not-true, or_cases}
use Rattle.std.proofs.lemmas.List.Sums.{count_by-le-length}
use mathlib.Core.Logic.{dite}
use native.Mathlib.Decide.{ℕ_discrete, dec_lt}
use Rattle.count_core.specs.declared.state.CoreView.{CoreView}
use Rattle.count_core.specs.CoreView.{asks, walk_with, wants, is_kept, misses}
use Rattle.count_core.specs.CoreState.{IsSite}
use Rattle.count_core.specs.StepLaws.{KeptStand}
use Rattle.value_rows.specs.Row.{keys_asked, occurrences, has_key, IsExact}
use Rattle.value_rows.proofs.Asked.{count_keys, count_find, key_find, key_there, member, member_at, pigeonhole, distinct_keys}

same_tests : (b c : Bool) → (b ≡ true → c ≡ true) → (c ≡ true → b ≡ true) → b ≡ c
same_tests true true f g = refl
same_tests true false f g = sym (f refl)
same_tests false true f g = g refl
same_tests false false f g = refl

module _ (stand : KeptStand) (places : ℕ) (key count : ℕ → ℕ) (dropped site : ℕ) (v : CoreView) (h : IsSite places key count dropped site (v ∷ [])) (rests : v.walking ≡ None) (kept : List (ℕ × ℕ)) (few : length kept ≤ places) (ends : length kept < places → key (length kept) ≡ 0) (full : (p : ℕ) → p < length kept → key p ≢ 0) (same : (p : ℕ) (d : ℕ × ℕ) → p < length kept → slice_index_or kept p d ≡ (key p, count p)) (short : length (keys_asked site v.asked) < 2 ^ 64) where
  asked_is : (k : ℕ) → sum_by (asks site k) (v ∷ []) ≡ occurrences (keys_asked site v.asked) k
  asked_is k = zero-add (asks site k v) ∙ count_keys site (λ x. x == k) v.asked

  missed_is : (test : ℕ → Bool) → sum_by (misses test site) (v ∷ []) ≡ count_by (λ k. not (test k)) (keys_asked site v.asked)
  missed_is test = zero-add (misses test site v) ∙ count_keys site (λ k. not (test k)) v.asked

  within : (test : ℕ → Bool) → count_by test (keys_asked site v.asked) % 2 ^ 64 ≡ count_by test (keys_asked site v.asked)
  within test = mod-eq_of_lt (let z = count_by-le-length test (keys_asked site v.asked) in omega arith)

  in_places : (p : ℕ) → p < length kept → p < places
  in_places p lt = omega (arith, few)

  key_is : (p : ℕ) → p < length kept → (get_or kept p (0, 0)).0 ≡ key p
  key_is p lt = ap (λ (e : ℕ × ℕ). e.0) (same p (0, 0) lt)

  occurs_at : (p : ℕ) → p < length kept → 0 < occurrences (keys_asked site v.asked) (key p)
  occurs_at p lt =
      let w = h.wanted p (in_places p lt) (full p lt) in
      let z = zero-add (wants site (key p) v) in
      let none : walk_with site (key p) v.walking ≡ 0 = ap (walk_with site (key p)) rests in
      let a = count_keys site (λ x. x == key p) v.asked in
      omega arith

  kept_test : (k : ℕ) → has_key kept k ≡ is_kept key places k
  kept_test k = same_tests (has_key kept k) (is_kept key places k)
      (λ e. let r = key_find kept k e in subst (λ (k : ℕ). is_kept key places k ≡ true) (sym (key_is r.0 r.1) ∙ r.2) ((stand key places (key r.0)).1 (r.0, in_places r.0 r.1, refl, full r.0 r.1)))
      (λ e.
      let r = (stand key places k).0 e in
      let nz : key r.0 ≢ 0 = λ z. r.3 (sym r.2 ∙ z) in
      dite (dec_lt r.0 (length kept))
      (λ lt. subst (λ (k : ℕ). has_key kept k ≡ true) (key_is r.0 lt ∙ r.2) (key_there kept r.0 lt))
      (λ past. absurd (dite (ℕ_discrete r.0 (length kept))
      (λ last. nz (ap key last ∙ ends (let z = r.1 in omega arith)))
      (λ ne. (h.first (length kept) r.0 (omega arith) r.1 nz).0 (ends (let z = r.1 in omega arith))))))

  dropped_count : dropped ≡ count_by (λ k. not (has_key kept k)) (keys_asked site v.asked)
  dropped_count =
      h.dropped_is
      ∙ ap (λ n. n % 2 ^ 64) (missed_is (is_kept key places))
      ∙ within (λ k. not (is_kept key places k))
      ∙ (λ i. count_by (λ k. not (sym (kept_test k) i)) (keys_asked site v.asked))

  filled : 0 < dropped → length kept ≡ places
  filled some_missed =
      dite (dec_lt (length kept) places)
      (λ vacant. let r = h.vacant (length kept) vacant (ends vacant) in let z : dropped ≡ 0 % 2 ^ 64 = h.dropped_is ∙ ap (λ n. n % 2 ^ 64) r.1 in absurd (omega arith))
      (λ closed. omega (arith, few))

  apart : (i j : ℕ) → i < j → j < length kept → (get_or kept i (0, 0)).0 ≢ (get_or kept j (0, 0)).0
  apart i j lt lt' e = (h.first i j lt (in_places j lt') (full j lt')).1 (sym (key_is i (omega arith)) ∙ e ∙ key_is j lt')

  all_fit : (these : List ℕ) → length these ≤ places → All (Contains these) (keys_asked site v.asked) → dropped ≡ 0
  all_fit these le all_in =
      dite (ℕ_discrete dropped 0)
      (λ e. e)
      (λ ne.
      let whole = filled (omega arith) in
      let missed = count_find (λ k. not (has_key kept k)) (keys_asked site v.asked) (subst (λ (n : ℕ). 0 < n) dropped_count (omega arith)) in
      let x = get_or (keys_asked site v.asked) missed.0 0 in
      let out : has_key kept x ≡ false = not-true (has_key kept x) missed.2 in
      let many : length ((x, 0) ∷ kept) ≤ length these = pigeonhole ((x, 0) ∷ kept) these (out, distinct_keys kept apart)
      (λ z e. ⊎_elim
      (λ (is_x : (x == z) ≡ true). subst (λ (z : ℕ). member these z ≡ true) (eqb-true x z is_x) (member_at these x (all_in missed.0 0 missed.1)))
      (λ (in_row : has_key kept z ≡ true).
      let r = key_find kept z in_row in
      let found = count_find (λ k. k == key r.0) (keys_asked site v.asked) (occurs_at r.0 r.1) in
      let z_is : get_or (keys_asked site v.asked) found.0 0 ≡ z = eqb-true _ (key r.0) found.2 ∙ sym (key_is r.0 r.1) ∙ r.2 in
      subst (λ (z : ℕ). member these z ≡ true) z_is (member_at these _ (all_in found.0 0 found.1)))
      (or_cases (x == z) (has_key kept z) e)) in
      absurd (omega arith))

  pub exact_row : (last : ℕ) → last ≡ dropped → IsExact places (keys_asked site v.asked) record { kept = kept; dropped = last }
  exact_row last e = record {
    distinct = λ i j d lt lt' same_key. (h.first i j lt (in_places j lt') (full j lt')).1 (sym (ap (λ (e : ℕ × ℕ). e.0) (same i d (omega arith))) ∙ same_key ∙ ap (λ (e : ℕ × ℕ). e.0) (same j d lt'));
    occurs = λ p d lt. subst (λ (e : ℕ × ℕ). 0 < occurrences (keys_asked site v.asked) e.0) (sym (same p d lt)) (occurs_at p lt);
    few = few;
    counted = λ p d lt. subst (λ (e : ℕ × ℕ). e.1 ≡ occurrences (keys_asked site v.asked) e.0) (sym (same p d lt)) (h.counted p (in_places p lt) (full p lt) ∙ ap (λ n. n % 2 ^ 64) (asked_is (key p)) ∙ within (λ k. k == key p));
    others = e ∙ dropped_count;
    full = λ positive. filled (subst (λ (n : ℕ). 0 < n) e positive);
    fit = λ these le all_in. e ∙ all_fit these le all_in;
  }
