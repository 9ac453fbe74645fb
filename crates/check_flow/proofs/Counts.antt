-- How often a number stands in a list, and lists of rising numbers, of which two with equal counts are equal.
use Rattle.std.proofs.Common.{◌≡◌, ◌≢◌, ℕ, suc, ◌+◌, ◌<◌, ◌≤◌, Bool, true, false, cond, ◌==◌, List, [], ◌∷◌, ◌++◌, length, get_or, sum_by, flat_map, refl, sym, ap, subst, ◌∙◌, inl, inr, ◌⊎◌, arith}
use Rattle.std.specs.List.{count_by}
use Rattle.std.specs.List.Sorted.{IsNonDecreasing}
use Rattle.std.proofs.lemmas.Bool.Decides.{leb_tells, nat_tests}
use Rattle.std.proofs.lemmas.List.Sums.{sum_by-cons}
use Rattle.std.proofs.Math.Dec.{leb}
use Rattle.spec_lists.specs.Each.{only_if}

abbrev pub one : ℕ → ℕ → ℕ
one v x = cond (x == v) 1 0

-- how often v stands in a list
abbrev pub count : ℕ → List ℕ → ℕ
count v xs = sum_by (one v) xs

pub one_same : (v : ℕ) → one v v ≡ 1
one_same v = grind (arith, nat_tests)

pub one_other : (v x : ℕ) → x ≢ v → one v x ≡ 0
one_other v x h = grind (arith, nat_tests)

-- ---- rising numbers, none below n

abbrev pub Rises : ℕ → List ℕ → Type 0
Rises n [] = Unit {0}
Rises n (x ∷ xs) = (n ≤ x) × Rises x xs

pub lower : (n m : ℕ) (xs : List ℕ) → m ≤ n → Rises n xs → Rises m xs
lower n m [] h r = tt
lower n m (x ∷ xs) h r = let first : n ≤ x = r.0 in (omega arith, r.1)

none_below : (v n : ℕ) (xs : List ℕ) → v < n → Rises n xs → count v xs ≡ 0
none_below v n [] h r = refl
none_below v n (x ∷ xs) h r =
    let first : n ≤ x = r.0 in
    let other : x ≢ v = λ e. absurd (omega arith) in
    let rest : count v xs ≡ 0 = none_below v x xs (omega arith) r.1 in
    let here : one v x ≡ 0 = one_other v x other in
    let all : count v (x ∷ xs) ≡ one v x + count v xs = sum_by-cons (one v) x xs in
    omega arith

has_first : (x : ℕ) (xs : List ℕ) → count x (x ∷ xs) ≡ 1 + count x xs
has_first x xs = sum_by-cons (one x) x xs ∙ ap (λ (k : ℕ). k + count x xs) (one_same x)

pub unique : (n : ℕ) (xs ys : List ℕ) → Rises n xs → Rises n ys → ((v : ℕ) → count v xs ≡ count v ys) → xs ≡ ys
unique n [] [] r s e = refl
unique n [] (y ∷ ys) r s e =
    let none : count y [] ≡ 0 = refl in
    let some : count y (y ∷ ys) ≡ 1 + count y ys = has_first y ys in
    let same : count y [] ≡ count y (y ∷ ys) = e y in
    absurd (omega arith)
unique n (x ∷ xs) [] r s e =
    let none : count x [] ≡ 0 = refl in
    let some : count x (x ∷ xs) ≡ 1 + count x xs = has_first x xs in
    let same : count x (x ∷ xs) ≡ count x [] = e x in
    absurd (omega arith)
unique n (x ∷ xs) (y ∷ ys) r s e = by (λ later same. unique x xs ys r.1 later same) (leb_tells x y) (leb_tells y x)
  where
    at_most : (a b : ℕ) (cs ds : List ℕ) → Rises a cs → Rises b ds → ((v : ℕ) → count v (a ∷ cs) ≡ count v (b ∷ ds)) → a < b → ⊥
    at_most a b cs ds p q f h =
        let some : count a (a ∷ cs) ≡ 1 + count a cs = has_first a cs in
        let none : count a (b ∷ ds) ≡ 0 = none_below a b (b ∷ ds) h (omega arith, q) in
        let same : count a (a ∷ cs) ≡ count a (b ∷ ds) = f a in
        absurd (omega arith)

    rest : x ≡ y → (v : ℕ) → count v xs ≡ count v ys
    rest h v =
        let left : count v (x ∷ xs) ≡ one v x + count v xs = sum_by-cons (one v) x xs in
        let right : count v (y ∷ ys) ≡ one v y + count v ys = sum_by-cons (one v) y ys in
        let firsts : one v x ≡ one v y = ap (λ (z : ℕ). one v z) h in
        let same : count v (x ∷ xs) ≡ count v (y ∷ ys) = e v in
        omega arith

    Tails : Type 0
    Tails = Rises x ys → ((v : ℕ) → count v xs ≡ count v ys) → xs ≡ ys

    equal : Tails → x ≡ y → x ∷ xs ≡ y ∷ ys
    equal tails h =
        let later : Rises x ys = subst (λ (z : ℕ). Rises z ys) (sym h) s.1 in
        let same : xs ≡ ys = tails later (rest h) in
        cc

    by : Tails → ((leb x y ≡ true) × (x ≤ y)) ⊎ ((leb x y ≡ false) × (y < x)) → ((leb y x ≡ true) × (y ≤ x)) ⊎ ((leb y x ≡ false) × (x < y)) → x ∷ xs ≡ y ∷ ys
    by tails (inl p) (inl q) = let le : x ≤ y = p.1 in let ge : y ≤ x = q.1 in equal tails (omega arith)
    by tails (inl p) (inr q) = absurd (at_most x y xs ys r.1 s.1 e q.1)
    by tails (inr p) q = absurd (at_most y x ys xs s.1 r.1 (λ v. sym (e v)) p.1)

from_order : (n : ℕ) (xs : List ℕ) → ((d : ℕ) → 0 < length xs → n ≤ get_or xs 0 d) → ((k d : ℕ) → suc k < length xs → get_or xs k d ≤ get_or xs (suc k) d) → Rises n xs
from_order n [] first up = tt
from_order n (x ∷ xs) first up = (first 0 (omega arith), from_order x xs (λ d h. up 0 d (omega arith)) (λ k d h. up (suc k) d (omega arith)))

pub rises_from_order : (xs : List ℕ) → IsNonDecreasing xs → Rises 0 xs
rises_from_order xs up = from_order 0 xs (λ d h. omega arith) (λ k d h. up k (suc k) d (omega arith) h)

-- ---- one number again and again, once for each item that passes a test

module _ {X : Type 0} (test : X → Bool) (p : ℕ) where
  abbrev pub again : List X → List ℕ
  again xs = flat_map (λ x. only_if (test x) p) xs

  pub rises_again : (n : ℕ) (xs : List X) (zs : List ℕ) → n ≤ p → Rises p zs → Rises n (again xs ++ zs)
  rises_again n [] zs h r = lower p n zs h r
  rises_again n (x ∷ xs) zs h r = by (rises_again n xs zs h r) (rises_again p xs zs (omega arith) r) (test x)
    where
      by : Rises n (again xs ++ zs) → Rises p (again xs ++ zs) → (b : Bool) → Rises n ((only_if b p ++ again xs) ++ zs)
      by here next true = (h, next)
      by here next false = here

  pub count_again : (xs : List X) → count p (again xs) ≡ count_by test xs
  count_again [] = refl
  count_again (x ∷ xs) = by (count_again xs) (test x) ∙ sym (sum_by-cons (λ y. cond (test y) 1 0) x xs)
    where
      by : count p (again xs) ≡ count_by test xs → (b : Bool) → count p (only_if b p ++ again xs) ≡ cond b 1 0 + count_by test xs
      by rest true = has_first p (again xs) ∙ ap (λ (k : ℕ). 1 + k) rest
      by rest false = let none : 0 + count_by test xs ≡ count_by test xs = omega arith in rest ∙ sym none

  pub count_none : (v : ℕ) (xs : List X) → p ≢ v → count v (again xs) ≡ 0
  count_none v [] h = refl
  count_none v (x ∷ xs) h = by (count_none v xs h) (test x)
    where
      by : count v (again xs) ≡ 0 → (b : Bool) → count v (only_if b p ++ again xs) ≡ 0
      by rest true =
          let all : count v (p ∷ again xs) ≡ one v p + count v (again xs) = sum_by-cons (one v) p (again xs) in
          let here : one v p ≡ 0 = one_other v p h in
          omega arith
      by rest false = rest
