-- A row that is exact for the keys of a list is so for those of another list that asks each (site, key) as often.
use Rattle.std.proofs.Common.{◌≡◌, ℕ, zero, suc, ◌+◌, ◌<◌, Bool, true, false, not, cond, ◌&&◌, List, [], ◌∷◌, map, refl, sym, ◌∙◌, ap, subst, arith}
use Rattle.std.specs.Prelude.{◌==◌, nat_eq, sum_by, filter, count_by, All, Contains}
use Rattle.std.specs.List.{list_any}
use Rattle.std.specs.Cmp.{IsEquivalence}
use Rattle.std.proofs.lemmas.Bool.{eqb-true, eq-eqb}
use Rattle.std.proofs.lemmas.List.Sums.{sum_by-cons}
use Rattle.std.proofs.lemmas.Map.Views.{list_any-from_Contains, Contains-from_any}
use Rattle.value_rows.specs.Row.{IsExact, has_key, keys_asked, occurrences}
use Rattle.value_rows.specs.declared.row.Row.{Row}

-- ---- keys of a site as weights of asks

abbrev weight : (ℕ → Bool) → ℕ → ℕ × ℕ → ℕ
weight test site e = cond (e.0 == site && test e.1) 1 0

key_of_one : (test : ℕ → Bool) (b : Bool) (e : ℕ × ℕ) (fs : List (ℕ × ℕ)) → count_by test (map (λ x. x.1) (cond b (e ∷ fs) fs)) ≡ cond (b && test e.1) 1 0 + count_by test (map (λ x. x.1) fs)
key_of_one test true e fs = sum_by-cons (λ k. cond (test k) 1 0) e.1 (map (λ x. x.1) fs)
key_of_one test false e fs = omega arith

counted_keys : (test : ℕ → Bool) (site : ℕ) (asked : List (ℕ × ℕ)) → count_by test (keys_asked site asked) ≡ sum_by (weight test site) asked
counted_keys test site [] = refl
counted_keys test site (e ∷ es) =
    let rest : count_by test (keys_asked site es) ≡ sum_by (weight test site) es = counted_keys test site es in
    let here : count_by test (keys_asked site (e ∷ es)) ≡ cond (e.0 == site && test e.1) 1 0 + count_by test (keys_asked site es) = key_of_one test (e.0 == site) e (filter (λ x. x.0 == site) es) in
    let there : sum_by (weight test site) (e ∷ es) ≡ weight test site e + sum_by (weight test site) es = sum_by-cons (weight test site) e es in
    here ∙ (ap (λ n. cond (e.0 == site && test e.1) 1 0 + n) rest ∙ sym there)

-- ---- keys that are all among some

nat_equivalence : IsEquivalence nat_eq
nat_equivalence = record {
  refl = λ x. eq-eqb x x refl;
  symm = nat_symm;
  congr = λ x y z e. ap (λ v. nat_eq v z) (eqb-true x y e);
}
  where
    both : (x y : ℕ) (b c : Bool) → nat_eq x y ≡ b → nat_eq y x ≡ c → b ≡ c
    both x y true true e f = refl
    both x y false false e f = refl
    both x y true false e f = sym (eq-eqb y x (sym (eqb-true x y e))) ∙ f
    both x y false true e f = sym e ∙ eq-eqb x y (sym (eqb-true y x f))

    nat_symm : (x y : ℕ) → nat_eq x y ≡ nat_eq y x
    nat_symm x y = both x y (nat_eq x y) (nat_eq y x) refl refl

abbrev outside : List ℕ → ℕ → Bool
outside these k = not (list_any (nat_eq k) these)

tail : {X : Type 0} (P : X → Type 0) (x : X) (xs : List X) → All P (x ∷ xs) → All P xs
tail P x xs all k d lt = all (suc k) d (omega (arith, lt))

cons : {X : Type 0} (P : X → Type 0) (x : X) (xs : List X) → P x → All P xs → All P (x ∷ xs)
cons P x xs here rest zero d lt = here
cons P x xs here rest (suc k) d lt = rest k d (omega (arith, lt))

first_and_rest : (these : List ℕ) (k : ℕ) (ks : List ℕ) → count_by (outside these) (k ∷ ks) ≡ cond (outside these k) 1 0 + count_by (outside these) ks
first_and_rest these k ks = sum_by-cons (λ x. cond (outside these x) 1 0) k ks

none_outside : (these keys : List ℕ) → All (Contains these) keys → count_by (outside these) keys ≡ 0
none_outside these [] all = refl
none_outside these (k ∷ ks) all =
    let inside : list_any (nat_eq k) these ≡ true = list_any-from_Contains nat_equivalence k these (all 0 k (omega arith)) in
    let here : ◌≡◌ {A = ℕ} (cond (outside these k) 1 0) 0 = ap (λ b. cond (not b) 1 0) inside in
    let rest : count_by (outside these) ks ≡ 0 = none_outside these ks (tail (Contains these) k ks all) in
    let sum : count_by (outside these) (k ∷ ks) ≡ cond (outside these k) 1 0 + count_by (outside these) ks = first_and_rest these k ks in
    omega (arith, here, rest, sum)

one_inside : (these : List ℕ) (k : ℕ) (ks : List ℕ) (b : Bool) → list_any (nat_eq k) these ≡ b → count_by (outside these) (k ∷ ks) ≡ 0 →
    (count_by (outside these) ks ≡ 0 → All (Contains these) ks) → All (Contains these) (k ∷ ks)
one_inside these k ks true e none rest =
    let sum : count_by (outside these) (k ∷ ks) ≡ cond (outside these k) 1 0 + count_by (outside these) ks = first_and_rest these k ks in
    cons (Contains these) k ks (Contains-from_any eqb-true k these e) (rest (omega arith))
one_inside these k ks false e none rest =
    let here : ◌≡◌ {A = ℕ} (cond (outside these k) 1 0) 1 = ap (λ b. cond (not b) 1 0) e in
    let sum : count_by (outside these) (k ∷ ks) ≡ cond (outside these k) 1 0 + count_by (outside these) ks = first_and_rest these k ks in
    absurd (omega (arith, here, sum, none))

all_inside : (these keys : List ℕ) → count_by (outside these) keys ≡ 0 → All (Contains these) keys
all_inside these [] none = λ k d lt. absurd (omega (arith, lt))
all_inside these (k ∷ ks) none = one_inside these k ks (list_any (nat_eq k) these) refl none (all_inside these ks)

-- ---- the row

module _ (a b : List (ℕ × ℕ)) (same : (w : ℕ × ℕ → ℕ) → sum_by w a ≡ sum_by w b) (site : ℕ) where
  same_count : (test : ℕ → Bool) → count_by test (keys_asked site a) ≡ count_by test (keys_asked site b)
  same_count test = counted_keys test site a ∙ (same (weight test site) ∙ sym (counted_keys test site b))

  same_occurrences : occurrences (keys_asked site a) ≡ occurrences (keys_asked site b)
  same_occurrences = λ j key. same_count (λ k. k == key) j

  pub exact_too : (places : ℕ) (row : Row) → IsExact places (keys_asked site a) row → IsExact places (keys_asked site b) row
  exact_too places row h = record {
    distinct = h.distinct;
    occurs = subst (λ (f : ℕ → ℕ). All (λ e. 0 < f e.0) row.kept) same_occurrences h.occurs;
    few = h.few;
    counted = subst (λ (f : ℕ → ℕ). All (λ e. e.1 ≡ f e.0) row.kept) same_occurrences h.counted;
    others = h.others ∙ same_count (λ k. not (has_key row.kept k));
    full = h.full;
    fit = λ these few all.
        h.fit these few (all_inside these (keys_asked site a) (same_count (outside these) ∙ none_outside these (keys_asked site b) all));
  }
