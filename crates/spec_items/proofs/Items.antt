-- Items of lists by their indices: where lists are joined, made item by item, or filtered.
use Rattle.std.proofs.Common.{inl, inr, ◌⊎◌, Option, None, ◌≡◌, ℕ, zero, suc, ◌+◌, ◌≤◌, Bool, true, false, cond, List, [], ◌∷◌, ◌++◌, length, take, drop, filter, find, count_by, Some, slice_get, refl, sym, ◌∙◌, ap, subst, arith}
use Rattle.std.proofs.lemmas.List.Sums.{sum_by-cons, sum_by-append}
use Rattle.std.proofs.lemmas.List.{append-nil, drop-drop, drop_at}
use Rattle.std.proofs.lemmas.Option.{none-some, same_Some}
use Rattle.spec_lists.specs.Each.{each}

-- an item stands in a list
abbrev pub Has : {X : Type 0} → X → List X → Type 0
Has x xs = (i : ℕ) × (slice_get xs i ≡ Some x)

-- the sum of the weights of items, each with its number
abbrev pub total : {Y : Type 0} → (ℕ → Y → ℕ) → ℕ → List Y → ℕ
total weight n [] = 0
total weight n (y ∷ ys) = weight n y + total weight (n + 1) ys

module _ {X : Type 0} where
  pub has_left : (x : X) (xs ys : List X) → Has x xs → Has x (xs ++ ys)
  has_left x [] ys h = absurd (none-some x h.1)
  has_left x (y ∷ xs) ys (zero, e) = (zero, e)
  has_left x (y ∷ xs) ys (suc i, e) = (let r = has_left x xs ys (i, e) in (suc r.0, r.1))

  pub has_right : (x : X) (xs ys : List X) → Has x ys → Has x (xs ++ ys)
  has_right x [] ys h = h
  has_right x (y ∷ xs) ys h = (let r = has_right x xs ys h in (suc r.0, r.1))

  -- an item that is one of those that are made of another
  pub has_each : {Y : Type 0} (make : ℕ → Y → List X) (x : X) (n : ℕ) (ys : List Y) (i : ℕ) (y : Y) → slice_get ys i ≡ Some y → Has x (make (n + i) y) → Has x (each make n ys)
  has_each make x n [] i y e h = absurd (none-some y e)
  has_each make x n (z ∷ ys) zero y e h =
      has_left x (make n z) (each make (n + 1) ys) (subst (λ (w : _). Has x (make n w)) (sym (same_Some z y e)) (subst (λ (j : ℕ). Has x (make j y)) (let q : n + 0 ≡ n = omega arith in q) h))
  has_each make x n (z ∷ ys) (suc i) y e h =
      has_right x (make n z) (each make (n + 1) ys) (has_each make x (n + 1) ys i y e (subst (λ (j : ℕ). Has x (make j y)) (let q : n + suc i ≡ n + 1 + i = omega arith in q) h))

  -- ---- finding

  pub find_has : (test : X → Bool) (xs : List X) (x : X) → find test xs ≡ Some x → (i : ℕ) × (slice_get xs i ≡ Some x) × (test x ≡ true)
  find_has test [] x e = absurd (none-some x e)
  find_has test (y ∷ xs) x e = by (test y) refl (λ q. find_has test xs x q) e
    where
      by : (b : Bool) → test y ≡ b → (find test xs ≡ Some x → (i : ℕ) × (slice_get xs i ≡ Some x) × (test x ≡ true)) → cond b (Some y) (find test xs) ≡ Some x → (i : ℕ) × (slice_get (y ∷ xs) i ≡ Some x) × (test x ≡ true)
      by true t later q = (0, q, ap test (sym (same_Some y x q)) ∙ t)
      by false t later q = (let r = later q in (suc r.0, r.1, r.2))

  pub count_cons : (test : X → Bool) (x : X) (xs : List X) → count_by test (x ∷ xs) ≡ cond {A = ℕ} (test x) 1 0 + count_by test xs
  count_cons test x xs = sum_by-cons (λ (y : X). cond (test y) 1 0) x xs

  -- an item that passes is counted
  pub counted_some : (test : X → Bool) (xs : List X) (x : X) → Has x xs → test x ≡ true → 1 ≤ count_by test xs
  counted_some test [] x h t = absurd (none-some x h.1)
  counted_some test (y ∷ xs) x (zero, e) t =
      let c = count_cons test y xs in
      let one : cond {A = ℕ} (test y) 1 0 ≡ 1 = ap (λ b. cond {A = ℕ} b 1 0) (ap test (same_Some y x e) ∙ t) in
      omega (arith, c, one)
  counted_some test (y ∷ xs) x (suc i, e) t =
      let c = count_cons test y xs in
      let more = counted_some test xs x (i, e) t in
      omega (arith, c, more)

  -- where one item at most passes, the first that does is any that does
  pub find_only : (test : X → Bool) (xs : List X) (x : X) → count_by test xs ≤ 1 → Has x xs → test x ≡ true → find test xs ≡ Some x
  find_only test [] x few h t = absurd (none-some x h.1)
  find_only test (y ∷ xs) x few (zero, e) t = ap (λ b. cond b (Some y) (find test xs)) (ap test (same_Some y x e) ∙ t) ∙ e
  find_only test (y ∷ xs) x few (suc i, e) t = by (test y) refl (λ fewer. find_only test xs x fewer (i, e) t)
    where
      by : (b : Bool) → test y ≡ b → (count_by test xs ≤ 1 → find test xs ≡ Some x) → cond b (Some y) (find test xs) ≡ Some x
      by true q later =
          let c = count_cons test y xs in
          let one : cond {A = ℕ} (test y) 1 0 ≡ 1 = ap (λ b. cond {A = ℕ} b 1 0) q in
          let more = counted_some test xs x (i, e) t in
          absurd (omega (arith, c, one, more, few))
      by false q later =
          let c = count_cons test y xs in
          later (omega (arith, c, few))

  -- where one item at most passes, two that pass are one
  pub only_one : (test : X → Bool) (xs : List X) (x y : X) → count_by test xs ≤ 1 → Has x xs → Has y xs → test x ≡ true → test y ≡ true → x ≡ y
  only_one test xs x y few h k t u = same_Some x y (sym (find_only test xs x few h t) ∙ find_only test xs y few k u)

  -- ---- the first items of a list, and what stands behind them

  pub get_taken : (n : ℕ) (xs : List X) (i : ℕ) (x : X) → slice_get (take n xs) i ≡ Some x → slice_get xs i ≡ Some x
  get_taken zero xs i x e = absurd (none-some x e)
  get_taken (suc n) [] i x e = e
  get_taken (suc n) (y ∷ xs) zero x e = e
  get_taken (suc n) (y ∷ xs) (suc i) x e = get_taken n xs i x e

  pub get_dropped : (n : ℕ) (xs ys : List X) (x : X) → drop n xs ≡ x ∷ ys → (slice_get xs n ≡ Some x) × (drop (n + 1) xs ≡ ys)
  get_dropped zero [] ys x e = absurd (cc)
  get_dropped zero (y ∷ xs) ys x e = (let a : y ≡ x = cc in ap Some a, let b : xs ≡ ys = cc in b)
  get_dropped (suc n) [] ys x e = absurd (cc)
  get_dropped (suc n) (y ∷ xs) ys x e =
      let later = get_dropped n xs ys x e in
      (later.0, ap (λ k. drop k (y ∷ xs)) (let q : suc n + 1 ≡ suc (n + 1) = omega arith in q) ∙ later.1)

  -- what is left of a list behind a row in it
  pub drop_row : (p : ℕ) (xs row ys : List X) → drop p xs ≡ row ++ ys → drop (p + length row) xs ≡ ys
  drop_row p xs row ys e = sym (drop-drop (length row) p xs) ∙ ap (λ l. drop (length row) l) e ∙ drop_at row ys (length row) refl

  -- ---- filters

  filter-append : (test : X → Bool) (xs ys : List X) → filter test (xs ++ ys) ≡ filter test xs ++ filter test ys
  filter-append test [] ys = refl
  filter-append test (x ∷ xs) ys = by (test x) (filter-append test xs ys)
    where
      by : (b : Bool) → filter test (xs ++ ys) ≡ filter test xs ++ filter test ys → cond b (x ∷ filter test (xs ++ ys)) (filter test (xs ++ ys)) ≡ cond b (x ∷ filter test xs) (filter test xs) ++ filter test ys
      by true e = ap (λ l. x ∷ l) e
      by false e = e

  filter_none : (test : X → Bool) (xs : List X) → ((i : ℕ) (x : X) → slice_get xs i ≡ Some x → test x ≡ false) → filter test xs ≡ []
  filter_none test [] h = refl
  filter_none test (x ∷ xs) h = ap (λ b. cond b (x ∷ filter test xs) (filter test xs)) (h 0 x refl) ∙ filter_none test xs (λ i y e. h (suc i) y e)

  -- items that don't pass may stand behind
  pub filter_first : (test : X → Bool) (xs ys : List X) → ((i : ℕ) (y : X) → slice_get ys i ≡ Some y → test y ≡ false) → filter test (xs ++ ys) ≡ filter test xs
  filter_first test xs ys h = filter-append test xs ys ∙ ap (λ l. filter test xs ++ l) (filter_none test ys h) ∙ append-nil (filter test xs)

  -- ---- how many items that are made of others pass

  pub count-append : (test : X → Bool) (xs ys : List X) → count_by test (xs ++ ys) ≡ count_by test xs + count_by test ys
  count-append test xs ys = sum_by-append (λ (x : X). cond (test x) 1 0) xs ys

  module _ {Y : Type 0} (weight : ℕ → Y → ℕ) where
    module _ (test : X → Bool) (make : ℕ → Y → List X) where
      pub count_made : ((j : ℕ) (y : Y) → count_by test (make j y) ≡ weight j y) → (n : ℕ) (ys : List Y) → count_by test (each make n ys) ≡ total weight n ys
      count_made h n [] = refl
      count_made h n (y ∷ ys) =
          let c = count-append test (make n y) (each make (n + 1) ys) in
          let here = h n y in
          let later = count_made h (n + 1) ys in
          omega (arith, c, here, later)

      pub count_few : ((j : ℕ) (y : Y) → count_by test (make j y) ≤ weight j y) → (n : ℕ) (ys : List Y) → count_by test (each make n ys) ≤ total weight n ys
      count_few h n [] = omega arith
      count_few h n (y ∷ ys) =
          let c = count-append test (make n y) (each make (n + 1) ys) in
          let here = h n y in
          let later = count_few h (n + 1) ys in
          omega (arith, c, here, later)

      -- and fewer, where one item makes fewer
      pub count_fewer : ((j : ℕ) (y : Y) → count_by test (make j y) ≤ weight j y) → (n : ℕ) (ys : List Y) (i : ℕ) (y : Y) → slice_get ys i ≡ Some y → suc (count_by test (make (n + i) y)) ≤ weight (n + i) y → suc (count_by test (each make n ys)) ≤ total weight n ys
      count_fewer h n [] i y e less = absurd (none-some y e)
      count_fewer h n (z ∷ ys) zero y e less =
          let c = count-append test (make n z) (each make (n + 1) ys) in
          let here : suc (count_by test (make n z)) ≤ weight n z =
          subst (λ (w : Y). suc (count_by test (make n w)) ≤ weight n w) (sym (same_Some z y e)) (subst (λ (j : ℕ). suc (count_by test (make j y)) ≤ weight j y) (let q : n + 0 ≡ n = omega arith in q) less) in
          let later = count_few h (n + 1) ys in
          omega (arith, c, here, later)
      count_fewer h n (z ∷ ys) (suc i) y e less =
          let c = count-append test (make n z) (each make (n + 1) ys) in
          let here = h n z in
          let later = count_fewer h (n + 1) ys i y e (subst (λ (j : ℕ). suc (count_by test (make j y)) ≤ weight j y) (let q : n + suc i ≡ n + 1 + i = omega arith in q) less) in
          omega (arith, c, here, later)

  -- ---- the same items in another order

  pub has_either : (x : X) (xs ys : List X) → Has x (xs ++ ys) → Has x xs ⊎ Has x ys
  has_either x [] ys h = inr h
  has_either x (y ∷ xs) ys (zero, e) = inl (0, e)
  has_either x (y ∷ xs) ys (suc i, e) = further (has_either x xs ys (i, e))
    where
      further : Has x xs ⊎ Has x ys → Has x (y ∷ xs) ⊎ Has x ys
      further (inl h) = inl (suc h.0, h.1)
      further (inr h) = inr h

  -- where one item at most passes in both, the first that does is the same
  pub find_same : (test : X → Bool) (xs ys : List X) → count_by test xs ≤ 1 → count_by test ys ≤ 1 → ((x : X) → Has x xs → Has x ys) → ((x : X) → Has x ys → Has x xs) → find test ys ≡ find test xs
  find_same test xs ys few less forth back = by (find test xs) refl
    where
      by : (o : Option X) → find test xs ≡ o → find test ys ≡ o
      by (Some x) e = (let h = find_has test xs x e in find_only test ys x less (forth x (h.0, h.1)) h.2)
      by None e = none (find test ys) refl
        where
          none : (o : Option X) → find test ys ≡ o → find test ys ≡ None
          none None f = f
          none (Some y) f = (let h = find_has test ys y f in absurd (none-some y (sym e ∙ find_only test xs y few (back y (h.0, h.1)) h.2)))
