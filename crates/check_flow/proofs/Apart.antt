-- Numbers are apart exactly where, sorted, each is above the one before it.
use Rattle.std.proofs.Common.{◌≡◌, ◌≢◌, ℕ, ◌+◌, ◌<◌, ◌≤◌, Bool, true, false, not, ◌==◌, ◌&&◌, ◌||◌, nat_lt, List, [], ◌∷◌, None, Some, Option, refl, sym, ap, ◌∙◌, inl, inr, ◌⊎◌, arith}
use Rattle.std.specs.List.{list_any}
use Rattle.std.specs.List.Sorted.{IsPermutation, IsSorted}
use Rattle.std.specs.Ordering.{nat_cmp}
use Rattle.std.specs.Cmp.{both_ways}
use Rattle.std.proofs.lemmas.Bool.{and_from, cases_eq, eq-eqb, eqb-true, false≢true, lt-ltb, ltb-true}
use Rattle.std.proofs.lemmas.List.Sorted.{IsNonDecreasingBy-from_sort, sum_by-IsPermutation}
use Rattle.std.proofs.lemmas.List.Sums.{sum_by-cons}
use Rattle.check_flow.proofs.Counts.{Rises, count, one, one_other, one_same, rises_from_order}
use Rattle.check_flow.specs.Rising.{is_above, rises}
use Rattle.ir_rules.specs.Lists.{are_apart}

pub and_left : (a b : Bool) → (a && b) ≡ true → a ≡ true
and_left true b h = refl
and_left false b h = cc

pub and_right : (a b : Bool) → (a && b) ≡ true → b ≡ true
and_right true b h = h
and_right false b h = cc

abbrev pub AtMostOnce : List ℕ → Type 0
AtMostOnce xs = (v : ℕ) → count v xs ≤ 1

-- a number is found in a list exactly where it is counted
found_some : (x : ℕ) (xs : List ℕ) → list_any (λ w. x == w) xs ≡ true → 1 ≤ count x xs
found_some x [] h = absurd (cc)
found_some x (y ∷ ys) h = by (x == y) refl h (found_some x ys)
  where
    all : count x (y ∷ ys) ≡ one x y + count x ys
    all = sum_by-cons (one x) y ys

    by : (t : Bool) → (x == y) ≡ t → (t || list_any (λ w. x == w) ys) ≡ true → (list_any (λ w. x == w) ys ≡ true → 1 ≤ count x ys) → 1 ≤ count x (y ∷ ys)
    by true e k rest =
        let is : x ≡ y = eqb-true x y e in
        let here : one x y ≡ 1 = ap (λ (z : ℕ). one x z) (sym is) ∙ one_same x in
        omega (arith, all)
    by false e k rest = let more : 1 ≤ count x ys = rest k in omega (arith, all)

found_none : (x : ℕ) (xs : List ℕ) → list_any (λ w. x == w) xs ≡ false → count x xs ≡ 0
found_none x [] h = refl
found_none x (y ∷ ys) h = by (x == y) refl h (found_none x ys)
  where
    all : count x (y ∷ ys) ≡ one x y + count x ys
    all = sum_by-cons (one x) y ys

    by : (t : Bool) → (x == y) ≡ t → (t || list_any (λ w. x == w) ys) ≡ false → (list_any (λ w. x == w) ys ≡ false → count x ys ≡ 0) → count x (y ∷ ys) ≡ 0
    by true e k rest = absurd (cc)
    by false e k rest =
        let other : y ≢ x = λ (q : y ≡ x). false≢true (sym e ∙ eq-eqb x y (sym q)) in
        let here : one x y ≡ 0 = one_other x y other in
        let more : count x ys ≡ 0 = rest k in
        omega (arith, all)

apart_once : (xs : List ℕ) → are_apart xs ≡ true → AtMostOnce xs
apart_once [] h v = omega arith
apart_once (x ∷ xs) h v = by (list_any (λ w. x == w) xs) refl h (cases_eq x v) (apart_once xs)
  where
    all : count v (x ∷ xs) ≡ one v x + count v xs
    all = sum_by-cons (one v) x xs

    by : (t : Bool) → list_any (λ w. x == w) xs ≡ t → (not t && are_apart xs) ≡ true → (x ≡ v) ⊎ (x ≢ v) → (are_apart xs ≡ true → AtMostOnce xs) → count v (x ∷ xs) ≤ 1
    by true e k q rest = absurd (cc)
    by false e k (inl q) rest =
        let none : count v xs ≡ 0 = ap (λ (z : ℕ). count z xs) (sym q) ∙ found_none x xs e in
        let here : one v x ≡ 1 = ap (λ (z : ℕ). one v z) q ∙ one_same v in
        omega (arith, all)
    by false e k (inr q) rest =
        let here : one v x ≡ 0 = one_other v x q in
        let more : count v xs ≤ 1 = rest k v in
        omega (arith, all)

once_apart : (xs : List ℕ) → AtMostOnce xs → are_apart xs ≡ true
once_apart [] h = refl
once_apart (x ∷ xs) h = by (list_any (λ w. x == w) xs) refl (once_apart xs)
  where
    less : AtMostOnce xs
    less v = omega (arith, h v, sum_by-cons (one v) x xs)

    by : (t : Bool) → list_any (λ w. x == w) xs ≡ t → (AtMostOnce xs → are_apart xs ≡ true) → (not t && are_apart xs) ≡ true
    by true e rest =
        let some : 1 ≤ count x xs = found_some x xs e in
        let all : count x (x ∷ xs) ≡ one x x + count x xs = sum_by-cons (one x) x xs in
        let here : one x x ≡ 1 = one_same x in
        absurd (omega (arith, h x))
    by false e rest = rest less

-- ---- numbers that rise from one another

none_up_to : (n v : ℕ) (xs : List ℕ) → rises (Some n) xs ≡ true → v ≤ n → count v xs ≡ 0
none_up_to n v [] h k = refl
none_up_to n v (x ∷ xs) h k =
    let above : n < x = ltb-true n x (and_left (nat_lt n x) (rises (Some x) xs) h) in
    let rest : count v xs ≡ 0 = none_up_to x v xs (and_right (nat_lt n x) (rises (Some x) xs) h) (omega arith) in
    let other : x ≢ v = λ (e : x ≡ v). absurd (omega arith) in
    let here : one v x ≡ 0 = one_other v x other in
    omega (arith, sum_by-cons (one v) x xs)

pub once_from : (o : Option ℕ) (xs : List ℕ) → rises o xs ≡ true → AtMostOnce xs
once_from o [] h v = omega arith
once_from o (x ∷ xs) h v = by (cases_eq x v) (once_from (Some x) xs more v)
  where
    more : rises (Some x) xs ≡ true
    more = and_right (is_above o x) (rises (Some x) xs) h

    all : count v (x ∷ xs) ≡ one v x + count v xs
    all = sum_by-cons (one v) x xs

    by : (x ≡ v) ⊎ (x ≢ v) → count v xs ≤ 1 → count v (x ∷ xs) ≤ 1
    by (inl q) rest =
        let none : count v xs ≡ 0 = none_up_to x v xs more (omega arith) in
        let here : one v x ≡ 1 = ap (λ (z : ℕ). one v z) q ∙ one_same v in
        omega (arith, all)
    by (inr q) rest = let here : one v x ≡ 0 = one_other v x q in omega (arith, all)

from_once : (x : ℕ) (xs : List ℕ) → Rises x xs → AtMostOnce (x ∷ xs) → rises (Some x) xs ≡ true
from_once x [] up h = refl
from_once x (y ∷ ys) up h = and_from (nat_lt x y) (rises (Some y) ys) (lt-ltb x y above) (from_once y ys up.1 less)
  where
    all : (v : ℕ) → count v (x ∷ y ∷ ys) ≡ one v x + count v (y ∷ ys)
    all v = sum_by-cons (one v) x (y ∷ ys)

    less : AtMostOnce (y ∷ ys)
    less v = omega (arith, h v, all v)

    apart : x ≢ y
    apart e =
        let first : one x x ≡ 1 = one_same x in
        let second : one x y ≡ 1 = ap (λ (z : ℕ). one x z) (sym e) ∙ one_same x in
        absurd (omega (arith, h x, all x, sum_by-cons (one x) y ys))

    above : x < y
    above = by (cases_eq x y)
      where
        by : (x ≡ y) ⊎ (x ≢ y) → x < y
        by (inl e) = absurd (apart e)
        by (inr q) = let low : x ≤ y = up.0 in omega (arith, low, q)

once_rises : (xs : List ℕ) → Rises 0 xs → AtMostOnce xs → rises None xs ≡ true
once_rises [] up h = refl
once_rises (x ∷ xs) up h = from_once x xs up.1 h

pub apart_sorted : (numbers sorted : List ℕ) → IsPermutation numbers sorted → IsSorted nat_cmp sorted → rises None sorted ≡ are_apart numbers
apart_sorted numbers sorted moved up =
    let rising : Rises 0 sorted = rises_from_order sorted (IsNonDecreasingBy-from_sort (λ n. n) sorted up) in
    let counts : (v : ℕ) → count v sorted ≡ count v numbers = λ (v : ℕ). sum_by-IsPermutation (one v) numbers sorted moved in
    both_ways (rises None sorted) (are_apart numbers) (λ h. once_apart numbers (λ v. let k = once_from None sorted h v in omega (arith, counts v, k))) (λ h. once_rises sorted rising (λ v. let k = apart_once numbers h v in omega (arith, counts v, k)))
