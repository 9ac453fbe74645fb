-- Running sums that are joined.
use Rattle.std.proofs.Common.{is_some, true, false, Bool, not, cond, eqb-true, All, ◌==◌, ◌≡◌, ◌+◌, ◌<◌, ℕ, List, [], ◌∷◌, ◌++◌, Option, Some, None, length, map, min, find, sum_by, slice_get, slice_index, slice_index_or, refl, sym, ap, ◌∙◌, subst, arith}
use Rattle.std.specs.List.{AllByRecursion}
use Rattle.std.specs.Option.{option_map}
use Rattle.std.proofs.lemmas.List.{map-append}
use Rattle.std.proofs.lemmas.List.Elements.{All-from_recursion}
use Rattle.std.proofs.lemmas.List.Sums.{sum_by-append}
use Rattle.std.proofs.lemmas.List.Concat.{flat_map-append}
use Rattle.prof_view.specs.Profile.{ProfileRecord}
use Rattle.prof_text.specs.Merged.{Target, capped, most, counter_at, site_at, targets_at, IsMergedSite, IsSumOf}
use Rattle.prof_text.specs.Mismatch.{counter_numbers, site_numbers, differs_from, differing}
use Rattle.prof_text.specs.Sums.{IsCounterTally, IsSiteTally}

-- the first number of a list, with others behind it
first_of : (f : ProfileRecord → ℕ) (rs us : List ProfileRecord) (n : ℕ) → slice_get (map f rs) 0 ≡ Some n → slice_get (map f (rs ++ us)) 0 ≡ Some n
first_of f [] us n e = cc
first_of f (r ∷ rs) us n e = e

capped_sum : (a b x y : ℕ) → a ≡ capped x → b ≡ capped y → min (a + b) most ≡ capped (x + y)
capped_sum a b x y e h = omega arith

pub join_counter_tally : (a b c : List ℕ) (o p r : Option ℕ) (rs us : List ProfileRecord) (n : ℕ) →
    n ≡ length a → length c ≡ length a →
    ((ns ms : List ℕ) → o ≡ find (differs_from n) ns → slice_get ms 0 ≡ Some (length b) → p ≡ find (differs_from (length b)) ms → r ≡ find (differs_from n) (ns ++ ms)) →
    (r ≡ None → (o ≡ None) × (p ≡ None) × ((i : ℕ) → slice_index c i ≡ min (slice_index a i + slice_index b i) most)) →
    IsCounterTally a o rs → IsCounterTally b p us → IsCounterTally c r (rs ++ us)
join_counter_tally a b c o p r rs us n is len found sums x y = record {
  number = first_of (λ q. length q.counters) rs us (length c) (x.number ∙ ap Some (sym len));
  differs =
      found (counter_numbers rs) (counter_numbers us) (x.differs ∙ ap (λ (m : ℕ). find (differs_from m) (counter_numbers rs)) (sym is)) y.number y.differs
      ∙ (ap (find (differs_from n)) (sym (map-append (λ (q : ProfileRecord). length q.counters) rs us))
      ∙ ap (λ (m : ℕ). find (differs_from m) (counter_numbers (rs ++ us))) (is ∙ sym len));
  sums = λ none i.
      (sums none).2 i
      ∙ (capped_sum (slice_index a i) (slice_index b i) (sum_by (counter_at i) rs) (sum_by (counter_at i) us) (x.sums (sums none).0 i) (y.sums (sums none).1 i)
      ∙ ap capped (sym (sum_by-append (counter_at i) rs us)));
}

pub join_site_tally : (a b c : List (List Target)) (o p r : Option ℕ) (rs us : List ProfileRecord) (n m : ℕ) →
    n ≡ length a → m ≡ length b → length c ≡ length a →
    ((ns ms : List ℕ) → o ≡ find (differs_from n) ns → slice_get ms 0 ≡ Some m → p ≡ find (differs_from m) ms → r ≡ find (differs_from n) (ns ++ ms)) →
    (r ≡ None → (o ≡ None) × (p ≡ None) × (m ≡ n) × ((s : ℕ) → slice_index_or c s [] ≡ slice_index_or a s [] ++ slice_index_or b s [])) →
    IsSiteTally a o rs → IsSiteTally b p us → IsSiteTally c r (rs ++ us)
join_site_tally a b c o p r rs us n m is is_b len found joins x y = record {
  number = first_of (λ q. length q.sites) rs us (length c) (x.number ∙ ap Some (sym len));
  differs =
      found (site_numbers rs) (site_numbers us) (x.differs ∙ ap (λ (m : ℕ). find (differs_from m) (site_numbers rs)) (sym is)) (y.number ∙ ap Some (sym is_b)) (y.differs ∙ ap (λ (m : ℕ). find (differs_from m) (site_numbers us)) (sym is_b))
      ∙ (ap (find (differs_from n)) (sym (map-append (λ (q : ProfileRecord). length q.sites) rs us))
      ∙ ap (λ (m : ℕ). find (differs_from m) (site_numbers (rs ++ us))) (is ∙ sym len));
  targets = λ none s low.
      let j : (o ≡ None) × (p ≡ None) × (m ≡ n) × ((s : ℕ) → slice_index_or c s [] ≡ slice_index_or a s [] ++ slice_index_or b s []) = joins none in
      let in_a : s < length a = omega (arith, len) in
      let same : m ≡ n = j.2 in
      let in_b : s < length b = omega arith in
      let left : slice_index_or a s [] ≡ targets_at s rs = x.targets j.0 s in_a in
      let right : slice_index_or b s [] ≡ targets_at s us = y.targets j.1 s in_b in
      j.3 s
      ∙ (ap (λ (ts : List Target). ts ++ slice_index_or b s []) left
      ∙ (ap (λ (ts : List Target). targets_at s rs ++ ts) right
      ∙ sym (flat_map-append (site_at s) rs us)));
}

pub none_of : {A : Type 0} (o : Option A) → is_some o ≡ false → o ≡ None
none_of None h = refl
none_of (Some n) h = cc

pub some_is_not_none : {A : Type 0} (o : Option A) → is_some o ≡ true → o ≡ None → ⊥
some_is_not_none None h e = cc
some_is_not_none (Some n) h e = cc

-- ---- what a tally without other numbers sums to
not_false : (b : Bool) → not b ≡ false → b ≡ true
not_false true h = refl
not_false false h = cc

step_alike : (n m : ℕ) (b : Bool) (o : Option ℕ) → differs_from n m ≡ b → cond b (Some m) o ≡ None → (m ≡ n) × (o ≡ None)
step_alike n m true o test h = cc
step_alike n m false o test h = (eqb-true m n (not_false (m == n) test), h)

pub alike : (f : ProfileRecord → ℕ) (n : ℕ) (rs : List ProfileRecord) → find (differs_from n) (map f rs) ≡ None → AllByRecursion (λ (r : ProfileRecord). f r ≡ n) rs
alike f n [] h = tt
alike f n (r ∷ rs) h =
    let both : (f r ≡ n) × (find (differs_from n) (map f rs) ≡ None) = step_alike n (f r) (differs_from n (f r)) (find (differs_from n) (map f rs)) refl h in
    (both.0, alike f n rs both.1)

all_alike : (f : ProfileRecord → ℕ) (n : ℕ) (rs : List ProfileRecord) → find (differs_from n) (map f rs) ≡ None → All (λ (r : ProfileRecord). f r ≡ n) rs
all_alike f n rs h = All-from_recursion (λ (r : ProfileRecord). f r ≡ n) rs (alike f n rs h)

pub sum_of_tally : (counters : List ℕ) (sites : List (List Target)) (o p : Option ℕ) (rs : List ProfileRecord) (r : ProfileRecord) →
    IsCounterTally counters o rs → IsSiteTally sites p rs → o ≡ None → p ≡ None →
    r.counters ≡ counters → length r.sites ≡ length sites →
    ((s : ℕ) → s < length sites → IsMergedSite (slice_index_or sites s []) (slice_index_or r.sites s [])) → IsSumOf rs r
sum_of_tally counters sites o p rs r x y no_counters no_sites same len merged = record {
  counters_alike = all_alike (λ q. length q.counters) (length r.counters) rs
      (subst (λ (cs : List ℕ). find (differs_from (length cs)) (counter_numbers rs) ≡ None) (sym same) (sym x.differs ∙ no_counters));
  sites_alike = all_alike (λ q. length q.sites) (length r.sites) rs
      (subst (λ (n : ℕ). find (differs_from n) (site_numbers rs) ≡ None) (sym len) (sym y.differs ∙ no_sites));
  counters = λ i. ap (λ (cs : List ℕ). slice_index cs i) same ∙ x.sums no_counters i;
  sites = λ s low.
      let in_sites : s < length sites = omega (arith, len) in
      subst (λ (ts : List Target). IsMergedSite ts (slice_index_or r.sites s [])) (y.targets no_sites s in_sites) (merged s in_sites);
}

-- ---- what a tally with another number is refused for
differing_of : (f : ProfileRecord → ℕ) (n m : ℕ) (rs : List ProfileRecord) → slice_get (map f rs) 0 ≡ Some n → Some m ≡ find (differs_from n) (map f rs) → differing (map f rs) ≡ Some (n, m)
differing_of f n m [] e h = cc
differing_of f n m (r ∷ rs) e h =
    let same : f r ≡ n = cc in
    subst (λ (k : ℕ). find (differs_from n) (map f (r ∷ rs)) ≡ Some m → option_map {U = ℕ × ℕ} (λ (j : ℕ). (k, j)) (find (differs_from k) (map f (r ∷ rs))) ≡ Some (n, m)) (sym same)
    (λ hit. ap (option_map {U = ℕ × ℕ} (λ (j : ℕ). (n, j))) hit) (sym h)

none_differing_of : (f : ProfileRecord → ℕ) (n : ℕ) (rs : List ProfileRecord) → slice_get (map f rs) 0 ≡ Some n → None ≡ find (differs_from n) (map f rs) → differing (map f rs) ≡ None
none_differing_of f n [] e h = refl
none_differing_of f n (r ∷ rs) e h =
    let same : f r ≡ n = cc in
    subst (λ (k : ℕ). find (differs_from n) (map f (r ∷ rs)) ≡ None → option_map {U = ℕ × ℕ} (λ (j : ℕ). (k, j)) (find (differs_from k) (map f (r ∷ rs))) ≡ None) (sym same)
    (λ none. ap (option_map {U = ℕ × ℕ} (λ (j : ℕ). (n, j))) none) (sym h)

pub counters_misfit : (counters : List ℕ) (o : Option ℕ) (rs : List ProfileRecord) (m : ℕ) → IsCounterTally counters o rs → o ≡ Some m → differing (counter_numbers rs) ≡ Some (length counters, m)
counters_misfit counters o rs m x e = differing_of (λ q. length q.counters) (length counters) m rs x.number (sym e ∙ x.differs)

pub counters_fit : (counters : List ℕ) (o : Option ℕ) (rs : List ProfileRecord) → IsCounterTally counters o rs → o ≡ None → differing (counter_numbers rs) ≡ None
counters_fit counters o rs x e = none_differing_of (λ q. length q.counters) (length counters) rs x.number (sym e ∙ x.differs)

pub sites_misfit : (sites : List (List Target)) (o : Option ℕ) (rs : List ProfileRecord) (m : ℕ) → IsSiteTally sites o rs → o ≡ Some m → differing (site_numbers rs) ≡ Some (length sites, m)
sites_misfit sites o rs m x e = differing_of (λ q. length q.sites) (length sites) m rs x.number (sym e ∙ x.differs)

pub sites_fit : (sites : List (List Target)) (o : Option ℕ) (rs : List ProfileRecord) → IsSiteTally sites o rs → o ≡ None → differing (site_numbers rs) ≡ None
sites_fit sites o rs x e = none_differing_of (λ q. length q.sites) (length sites) rs x.number (sym e ∙ x.differs)
