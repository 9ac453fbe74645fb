-- The sums and lists of a view after it added, drew or joined.
use Rattle.std.proofs.Common.{◌≡◌, ◌≢◌, ℕ, zero, suc, ◌+◌, ◌-◌, ◌<◌, ◌≤◌, min, max, subst, append-nil, zero-add, take, drop, ap₂, List, [], ◌∷◌, ◌++◌, length, set, get_or, replicate, sum_by, sym, refl, ap, ◌∙◌, arith}
use Rattle.std.proofs.lemmas.List.{take_more, take_all, take-append-le, length-set}
use Rattle.std.specs.List.{refill}
use Rattle.std.proofs.lemmas.List.Sums.{sum_by_push}
use Rattle.count_core.specs.CoreView.{raised, lengthened, joined}
use Rattle.count_core.specs.CoreState.{below}

pub get_or-raised_same : (xs : List ℕ) (i k : ℕ) → get_or (raised xs i k) i 0 ≡ get_or xs i 0 + k
get_or-raised_same [] zero k = omega arith
get_or-raised_same (x ∷ xs) zero k = refl
get_or-raised_same [] (suc i) k = get_or-raised_same [] i k
get_or-raised_same (x ∷ xs) (suc i) k = get_or-raised_same xs i k

pub get_or-raised_other : (xs : List ℕ) (i k c : ℕ) → c ≢ i → get_or (raised xs i k) c 0 ≡ get_or xs c 0
get_or-raised_other [] zero k zero n = absurd (n refl)
get_or-raised_other [] zero k (suc c) n = refl
get_or-raised_other (x ∷ xs) zero k zero n = absurd (n refl)
get_or-raised_other (x ∷ xs) zero k (suc c) n = refl
get_or-raised_other [] (suc i) k zero n = refl
get_or-raised_other [] (suc i) k (suc c) n = get_or-raised_other [] i k c (λ e. n (ap suc e))
get_or-raised_other (x ∷ xs) (suc i) k zero n = refl
get_or-raised_other (x ∷ xs) (suc i) k (suc c) n = get_or-raised_other xs i k c (λ e. n (ap suc e))

pub get_or-joined : (xs ys : List ℕ) (c : ℕ) → get_or (joined xs ys) c 0 ≡ get_or xs c 0 + get_or ys c 0
get_or-joined [] ys c = omega arith
get_or-joined (x ∷ xs) [] c = omega arith
get_or-joined (x ∷ xs) (y ∷ ys) zero = refl
get_or-joined (x ∷ xs) (y ∷ ys) (suc c) = get_or-joined xs ys c

pub get_or-zeros : (n i : ℕ) → get_or (let z : ℕ = 0 in replicate n z) i 0 ≡ 0
get_or-zeros zero i = refl
get_or-zeros (suc n) zero = refl
get_or-zeros (suc n) (suc i) = get_or-zeros n i

-- one more number below the end
pub below-next : (h : ℕ → ℕ) (n most : ℕ) → n < most → sum_by h (below (min (n + 1) most)) ≡ sum_by h (below (min n most)) + h n
below-next h n most lt =
    let a : min (n + 1) most ≡ suc n = omega arith in
    let b : min n most ≡ n = omega arith in
    ap (λ m. sum_by h (below m)) a ∙ sum_by_push h (below n) n ∙ ap (λ m. sum_by h (below m) + h n) (sym b)

pub below-past : (h : ℕ → ℕ) (n most : ℕ) → most ≤ n → sum_by h (below (min (n + 1) most)) ≡ sum_by h (below (min n most))
below-past h n most le = let a : min (n + 1) most ≡ min n most = omega arith in ap (λ m. sum_by h (below m)) a

-- an element with k more, in a list that was lengthened until it has the element
pub set-lengthened : (xs : List ℕ) (i k m : ℕ) → m ≡ i + 1 - length xs → (let z : ℕ = 0 in let ys : List ℕ = xs ++ replicate m z in set ys i (get_or ys i 0 + k) ≡ raised xs i k)
set-lengthened [] zero k m e = subst (λ (m : ℕ). let z : ℕ = 0 in let ys : List ℕ = replicate m z in set ys zero (get_or ys zero 0 + k) ≡ k ∷ []) {x = 1} {y = m} (omega arith) (ap (λ (n : ℕ). n ∷ []) (zero-add k))
set-lengthened [] (suc i) k zero e = absurd (omega arith)
set-lengthened [] (suc i) k (suc m) e = ap (λ (l : List ℕ). 0 ∷ l) (set-lengthened [] i k m (omega arith))
set-lengthened (x ∷ xs) zero k zero e = ap (λ (l : List ℕ). (x + k) ∷ l) (append-nil xs)
set-lengthened (x ∷ xs) zero k (suc m) e = absurd (omega arith)
set-lengthened (x ∷ xs) (suc i) k m e = ap (λ (l : List ℕ). x ∷ l) (set-lengthened xs i k m (omega arith))

pub length-joined : (xs ys : List ℕ) → length (joined xs ys) ≡ max (length xs) (length ys)
length-joined [] ys = omega arith
length-joined (x ∷ xs) [] = omega arith
length-joined (x ∷ xs) (y ∷ ys) = let h = length-joined xs ys in omega arith

pub length-raised : (xs : List ℕ) (i k n : ℕ) → length xs ≤ n → i < n → length (raised xs i k) ≤ n
length-raised [] zero k n le lt = omega arith
length-raised (x ∷ xs) zero k n le lt = le
length-raised [] (suc i) k zero le lt = absurd (omega arith)
length-raised [] (suc i) k (suc n) le lt = let h = length-raised [] i k n (omega arith) (omega arith) in omega arith
length-raised (x ∷ xs) (suc i) k zero le lt = absurd (omega arith)
length-raised (x ∷ xs) (suc i) k (suc n) le lt = let h = length-raised xs i k n (omega arith) (omega arith) in omega arith

-- a list whose elements were changed in place ends as they do
refill_same : (xs ws : List ℕ) → length ws ≡ length xs → refill (length xs) xs ws ≡ ws
refill_same xs ws e = take-append-le (length xs) ws (drop (length ws) xs) (omega arith) ∙ take_all (length xs) ws (omega arith)

pub raise_is : (xs ys zs : List ℕ) (i k n : ℕ) → ys ≡ lengthened xs (i + 1) → zs ≡ ys → n ≡ k → refill (length ys) ys (set zs i (get_or zs i 0 + n)) ≡ raised xs i k
raise_is xs ys zs i k n e same is =
    refill_same ys (set zs i (get_or zs i 0 + n)) (length-set zs i _ ∙ ap length same)
    ∙ ap₂ (λ (l : List ℕ) (n : ℕ). set l i (get_or l i 0 + n)) (same ∙ e) is
    ∙ set-lengthened xs i k (i + 1 - length xs) refl

pub joined_more : (xs ys done : List ℕ) (i n : ℕ) → done ≡ take i (joined xs ys) → i < max (length xs) (length ys) → n ≡ get_or xs i 0 + get_or ys i 0 → done ++ n ∷ [] ≡ take (i + 1) (joined xs ys)
joined_more xs ys done i n e lt is =
    let long : i < length (joined xs ys) = omega (arith, length-joined xs ys) in
    ap₂ (λ (l : List ℕ) (m : ℕ). l ++ m ∷ []) e (is ∙ sym (get_or-joined xs ys i)) ∙ sym (take_more (joined xs ys) i 0 long)

pub joined_all : (xs ys : List ℕ) (n : ℕ) → n ≡ max (length xs) (length ys) → take n (joined xs ys) ≡ joined xs ys
joined_all xs ys n e = take_all n (joined xs ys) (omega (arith, length-joined xs ys))
