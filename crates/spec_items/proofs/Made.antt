-- Items of lists that are made item by item, and tests that one item passes.
use Rattle.std.proofs.Common.{◌≡◌, ℕ, zero, suc, ◌+◌, ◌==◌, ◌≤◌, ◌<◌, Bool, true, false, cond, ◌&&◌, List, [], ◌∷◌, ◌++◌, length, map, take, drop, filter, flat_map, count_by, position, Some, None, slice_get, slice_index_or, refl, sym, ◌∙◌, ap, subst, arith, zero-add}
use Rattle.std.specs.Prelude.{nat_lt}
use Rattle.std.proofs.lemmas.Bool.{eq-eqb, lt-ltb}
use Rattle.std.proofs.lemmas.List.{append-nil}
use Rattle.std.proofs.lemmas.List.Quantifiers.{position-Some}
use Rattle.std.proofs.lemmas.List.Sums.{position_or_len_is}
use Rattle.std.proofs.lemmas.Option.{get_or_from_slice_get, none-some, same_Some, slice_get-get_or, slice_get_within}
use Rattle.spec_items.proofs.Items.{count_cons, count-append, counted_some}
use Rattle.spec_lists.specs.Each.{each}

pub true_false : true ≡ false → ⊥
true_false h = cc

pub both : (a b : Bool) → a && b ≡ true → (a ≡ true) × (b ≡ true)
both true true e = (refl, refl)
both true false e = absurd (cc)
both false b e = absurd (cc)

pub same_number : (b : ℕ) → (b == b) ≡ true
same_number b = eq-eqb b b refl

module _ {X Y : Type 0} where
  -- ---- lists of one item for each

  pub each_at : (h : ℕ → X → Y) (n : ℕ) (xs : List X) (i : ℕ) (x : X) (d : Y) → slice_get xs i ≡ Some x → slice_index_or (each (λ j y. h j y ∷ []) n xs) i d ≡ h (n + i) x
  each_at h n [] i x d e = absurd (none-some x e)
  each_at h n (y ∷ ys) zero x d e = ap (h n) (same_Some y x e) ∙ ap (λ j. h j x) (let q : n ≡ n + 0 = omega arith in q)
  each_at h n (y ∷ ys) (suc i) x d e = each_at h (n + 1) ys i x d e ∙ ap (λ j. h j x) (let q : n + 1 + i ≡ n + suc i = omega arith in q)

  pub map_at : (h : X → Y) (xs : List X) (i : ℕ) (x : X) (d : Y) → slice_get xs i ≡ Some x → slice_index_or (map h xs) i d ≡ h x
  map_at h [] i x d e = absurd (none-some x e)
  map_at h (y ∷ ys) zero x d e = ap h (same_Some y x e)
  map_at h (y ∷ ys) (suc i) x d e = map_at h ys i x d e

  -- ---- what is made of the items that pass a test

  pub none_where : (test : X → Bool) (make : ℕ → List Y) (n : ℕ) (xs : List X) → ((i : ℕ) (x : X) → slice_get xs i ≡ Some x → test x ≡ false) → each (λ k x. cond (test x) (make k) []) n xs ≡ []
  none_where test make n [] h = refl
  none_where test make n (x ∷ xs) h =
      ap (λ b. cond b (make n) [] ++ each (λ k y. cond (test y) (make k) []) (n + 1) xs) (h 0 x refl) ∙ none_where test make (n + 1) xs (λ i y e. h (suc i) y e)

  pub only_where : (test : X → Bool) (make : ℕ → List Y) (n : ℕ) (xs : List X) (i : ℕ) (x : X) → slice_get xs i ≡ Some x → test x ≡ true → ((j : ℕ) (y : X) → slice_get xs j ≡ Some y → test y ≡ true → j ≡ i) → each (λ k x. cond (test x) (make k) []) n xs ≡ make (n + i)
  only_where test make n [] i x e t one = absurd (none-some x e)
  only_where test make n (y ∷ ys) zero x e t one =
      (λ j. cond ((ap test (same_Some y x e) ∙ t) j) (make n) [] ++ none_where test make (n + 1) ys (λ i z h. not_passed (test z) refl i z h) j)
      ∙ append-nil (make n) ∙ ap make (let q : n ≡ n + 0 = omega arith in q)
    where
      not_passed : {z : X} (b : Bool) → test z ≡ b → (i : ℕ) (w : X) → slice_get ys i ≡ Some z → b ≡ false
      not_passed true q i w h = absurd (let s : suc i ≡ 0 = one (suc i) _ h q in omega (arith, s))
      not_passed false q i w h = refl
  only_where test make n (y ∷ ys) (suc i) x e t one =
      (λ j. cond (first_fails (test y) refl j) (make n) [] ++ each (λ k z. cond (test z) (make k) []) (n + 1) ys)
      ∙ only_where test make (n + 1) ys i x e t (λ j z h u. (let s : suc j ≡ suc i = one (suc j) z h u in omega (arith, s)))
      ∙ ap make (let q : n + 1 + i ≡ n + suc i = omega arith in q)
    where
      first_fails : (b : Bool) → test y ≡ b → test y ≡ false
      first_fails true q = absurd (let s : 0 ≡ suc i = one 0 y refl q in omega (arith, s))
      first_fails false q = q

module _ {X : Type 0} where
  pub counted_at : (test : X → Bool) (xs : List X) (i : ℕ) (x : X) → slice_get xs i ≡ Some x → test x ≡ true → 1 ≤ count_by test xs
  counted_at test xs i x e t = counted_some test xs x (i, e) t

  -- some item passes
  pub some_counted : (test : X → Bool) (xs : List X) → 1 ≤ count_by test xs → (i : ℕ) × (x : X) × (slice_get xs i ≡ Some x) × (test x ≡ true)
  some_counted test [] h = absurd (omega arith)
  some_counted test (y ∷ xs) h = by (test y) refl (λ more. some_counted test xs more)
    where
      by : (b : Bool) → test y ≡ b → (1 ≤ count_by test xs → (i : ℕ) × (x : X) × (slice_get xs i ≡ Some x) × (test x ≡ true)) → (i : ℕ) × (x : X) × (slice_get (y ∷ xs) i ≡ Some x) × (test x ≡ true)
      by true t later = (0, y, refl, t)
      by false t later =
          let c = count_cons test y xs in
          let z : cond {A = ℕ} (test y) 1 0 ≡ 0 = ap (λ b. cond {A = ℕ} b 1 0) t in
          let r = later (omega (arith, c, z, h)) in
          (suc r.0, r.1, r.2, r.3)

  -- where one item at most passes, there is one place for it
  pub one_place : (test : X → Bool) (xs : List X) → count_by test xs ≤ 1 → (i j : ℕ) (x y : X) → slice_get xs i ≡ Some x → slice_get xs j ≡ Some y → test x ≡ true → test y ≡ true → j ≡ i
  one_place test [] few i j x y e h t u = absurd (none-some x e)
  one_place test (z ∷ xs) few zero zero x y e h t u = refl
  one_place test (z ∷ xs) few zero (suc j) x y e h t u =
      let c = count_cons test z xs in
      let one : cond {A = ℕ} (test z) 1 0 ≡ 1 = ap (λ b. cond {A = ℕ} b 1 0) (ap test (same_Some z x e) ∙ t) in
      let more = counted_at test xs j y h u in
      absurd (omega (arith, c, one, more, few))
  one_place test (z ∷ xs) few (suc i) zero x y e h t u =
      let c = count_cons test z xs in
      let one : cond {A = ℕ} (test z) 1 0 ≡ 1 = ap (λ b. cond {A = ℕ} b 1 0) (ap test (same_Some z y h) ∙ u) in
      let more = counted_at test xs i x e t in
      absurd (omega (arith, c, one, more, few))
  one_place test (z ∷ xs) few (suc i) (suc j) x y e h t u =
      let c = count_cons test z xs in
      ap (λ k. suc k) (one_place test xs (omega (arith, c, few)) i j x y e h t u)

  -- and where all that pass stand at one place, one passes at most
  pub at_most_one : (test : X → Bool) (xs : List X) (i : ℕ) → ((j : ℕ) (y : X) → slice_get xs j ≡ Some y → test y ≡ true → j ≡ i) → count_by test xs ≤ 1
  at_most_one test [] i one = omega arith
  at_most_one test (x ∷ xs) zero one =
      let c = count_cons test x xs in
      let none : count_by test xs ≡ 0 = none_pass test xs (λ j y e. fails j y e (test y) refl) in
      let first : cond {A = ℕ} (test x) 1 0 ≤ 1 = at_most (test x) in
      omega (arith, c, none, first)
    where
      fails : (j : ℕ) (y : X) → slice_get xs j ≡ Some y → (b : Bool) → test y ≡ b → test y ≡ false
      fails j y e true t = absurd (let s : suc j ≡ 0 = one (suc j) y e t in omega (arith, s))
      fails j y e false t = t

      at_most : (b : Bool) → cond {A = ℕ} b 1 0 ≤ 1
      at_most true = omega arith
      at_most false = omega arith

      none_pass : (test : X → Bool) (xs : List X) → ((j : ℕ) (y : X) → slice_get xs j ≡ Some y → test y ≡ false) → count_by test xs ≡ 0
      none_pass test [] h = refl
      none_pass test (y ∷ ys) h =
          let c = count_cons test y ys in
          let z : cond {A = ℕ} (test y) 1 0 ≡ 0 = ap (λ b. cond {A = ℕ} b 1 0) (h 0 y refl) in
          let later = none_pass test ys (λ j w e. h (suc j) w e) in
          omega (arith, c, z, later)
  at_most_one test (x ∷ xs) (suc i) one =
      let c = count_cons test x xs in
      let first : cond {A = ℕ} (test x) 1 0 ≡ 0 = ap (λ b. cond {A = ℕ} b 1 0) (fails (test x) refl) in
      let later = at_most_one test xs i (λ j y e t. (let s : suc j ≡ suc i = one (suc j) y e t in omega (arith, s))) in
      omega (arith, c, first, later)
    where
      fails : (b : Bool) → test x ≡ b → test x ≡ false
      fails true t = absurd (let s : 0 ≡ suc i = one 0 x refl t in omega (arith, s))
      fails false t = t

  pub none_pass : (test : X → Bool) (xs : List X) → ((j : ℕ) (y : X) → slice_get xs j ≡ Some y → test y ≡ false) → count_by test xs ≡ 0
  none_pass test [] h = refl
  none_pass test (y ∷ ys) h =
      let c = count_cons test y ys in
      let z : cond {A = ℕ} (test y) 1 0 ≡ 0 = ap (λ b. cond {A = ℕ} b 1 0) (h 0 y refl) in
      let later = none_pass test ys (λ j w e. h (suc j) w e) in
      omega (arith, c, z, later)

  pub get_behind : (n : ℕ) (xs : List X) (i : ℕ) → slice_get (drop n xs) i ≡ slice_get xs (n + i)
  get_behind zero xs i = ap (slice_get xs) (sym (zero-add i))
  get_behind (suc n) [] i = refl
  get_behind (suc n) (x ∷ xs) i = get_behind n xs i ∙ ap (slice_get (x ∷ xs)) (let q : suc (n + i) ≡ suc n + i = omega arith in q)

  -- the item at a place passes
  pub at_position : (test : X → Bool) (xs : List X) (i : ℕ) → position test xs ≡ Some i → (x : X) × (slice_get xs i ≡ Some x) × (test x ≡ true)
  at_position test [] i e = absurd (none-some i e)
  at_position test (y ∷ ys) i e =
      let p = position-Some test (y ∷ ys) i y e in
      (_, slice_get-get_or (y ∷ ys) i y p.0, p.1)

  -- among those that pass the filter, by the count before it
  pub filter_at : (test : X → Bool) (xs : List X) (i : ℕ) (x : X) → slice_get xs i ≡ Some x → test x ≡ true → slice_get (filter test xs) (count_by test (take i xs)) ≡ Some x
  filter_at test [] i x e t = absurd (none-some x e)
  filter_at test (y ∷ ys) zero x e t = ap (λ b. slice_get (cond b (y ∷ filter test ys) (filter test ys)) 0) (ap test (same_Some y x e) ∙ t) ∙ e
  filter_at test (y ∷ ys) (suc i) x e t = by (test y) refl (filter_at test ys i x e t)
    where
      by : (b : Bool) → test y ≡ b → slice_get (filter test ys) (count_by test (take i ys)) ≡ Some x → slice_get (cond b (y ∷ filter test ys) (filter test ys)) (count_by test (y ∷ take i ys)) ≡ Some x
      by true q later =
          let c = count_cons test y (take i ys) in
          let one : cond {A = ℕ} (test y) 1 0 ≡ 1 = ap (λ b. cond {A = ℕ} b 1 0) q in
          let n : count_by test (y ∷ take i ys) ≡ suc (count_by test (take i ys)) = omega (arith, c, one) in
          ap (slice_get (y ∷ filter test ys)) n ∙ later
      by false q later =
          let c = count_cons test y (take i ys) in
          let none : cond {A = ℕ} (test y) 1 0 ≡ 0 = ap (λ b. cond {A = ℕ} b 1 0) q in
          let n : count_by test (y ∷ take i ys) ≡ count_by test (take i ys) = omega (arith, c, none) in
          ap (slice_get (filter test ys)) n ∙ later

  -- the place of the one item that passes
  pub position_only : (test : X → Bool) (xs : List X) (i : ℕ) (x : X) → slice_get xs i ≡ Some x → test x ≡ true → ((j : ℕ) (y : X) → slice_get xs j ≡ Some y → test y ≡ true → j ≡ i) → position test xs ≡ Some i
  position_only test xs i x e t one =
      let within : i < length xs = slice_get_within xs i x e in
      let here : test (slice_index_or xs i x) ≡ true = ap test (get_or_from_slice_get xs i x x e) ∙ t in
      let before = λ (k : ℕ) (h : k < i). fails k h (test (slice_index_or xs k x)) refl in
      let first = position_or_len_is test xs i x (omega (arith, within)) before (λ h. here) in
      (λ n. cond (nat_lt (first n) (length xs)) (Some (first n)) None) ∙ ap (λ b. cond b (Some i) None) (lt-ltb i (length xs) within)
    where
      fails : (k : ℕ) → k < i → (b : Bool) → test (slice_index_or xs k x) ≡ b → test (slice_index_or xs k x) ≡ false
      fails k h true u =
          let within : i < length xs = slice_get_within xs i x e in
          absurd (let s : k ≡ i = one k (slice_index_or xs k x) (slice_get-get_or xs k x (omega (arith, h, within))) u in omega (arith, s, h))
      fails k h false u = u

pub and_off : (a b : Bool) → (a ≡ true → b ≡ false) → (a && b) ≡ false
and_off true b h = h refl
and_off false b h = refl

pub and_on : (a b : Bool) → a ≡ true → b ≡ true → (a && b) ≡ true
and_on true true e h = refl
and_on true false e h = absurd (cc)
and_on false b e h = absurd (cc)

-- ---- lists made in two steps

abbrev pub AllOf : {X : Type 0} → (X → Type 0) → List X → Type 0
AllOf P [] = Unit {0}
AllOf P (x ∷ xs) = P x × AllOf P xs

pub all_append : {X : Type 0} (P : X → Type 0) (xs ys : List X) → AllOf P xs → AllOf P ys → AllOf P (xs ++ ys)
all_append P [] ys a b = b
all_append P (x ∷ xs) ys a b = (a.0, all_append P xs ys a.1 b)

module _ {X Y Z : Type 0} where
  -- what is made of the items that are made
  pub all_made : (P : Z → Type 0) (f : Y → List Z) (h : ℕ → X → Y) → ((n : ℕ) (x : X) → AllOf P (f (h n x))) → (n : ℕ) (xs : List X) → AllOf P (flat_map f (each (λ n x. h n x ∷ []) n xs))
  all_made P f h all n [] = tt
  all_made P f h all n (x ∷ xs) = all_append P (f (h n x)) (flat_map f (each (λ n x. h n x ∷ []) (n + 1) xs)) (all n x) (all_made P f h all (n + 1) xs)

  pub flat_made : (f : Y → List Z) (h : ℕ → X → Y) (n : ℕ) (xs : List X) → flat_map f (each (λ n x. h n x ∷ []) n xs) ≡ each (λ n x. f (h n x)) n xs
  flat_made f h n [] = refl
  flat_made f h n (x ∷ xs) = ap (λ l. f (h n x) ++ l) (flat_made f h (n + 1) xs)

pub all_uncounted : {X : Type 0} (P : X → Type 0) (test : X → Bool) → ((x : X) → P x → test x ≡ false) → (xs : List X) → AllOf P xs → count_by test xs ≡ 0
all_uncounted P test fails [] all = refl
all_uncounted P test fails (x ∷ xs) all =
    let c = count_cons test x xs in
    let none : cond {A = ℕ} (test x) 1 0 ≡ 0 = ap (λ b. cond {A = ℕ} b 1 0) (fails x all.0) in
    let later = all_uncounted P test fails xs all.1 in
    omega (arith, c, none, later)

module _ {X Y : Type 0} (test : X → Bool) (make : ℕ → Y → List X) where
  -- what is counted is made of some item
  pub made_some : (n : ℕ) (ys : List Y) → 1 ≤ count_by test (each make n ys) → (i : ℕ) × (y : Y) × (slice_get ys i ≡ Some y) × (1 ≤ count_by test (make (n + i) y))
  made_some n [] h = absurd (omega (arith, h))
  made_some n (y ∷ ys) h = by (count_by test (make n y)) refl (λ more. made_some (n + 1) ys more)
    where
      by : (c : ℕ) → count_by test (make n y) ≡ c → (1 ≤ count_by test (each make (n + 1) ys) → (i : ℕ) × (z : Y) × (slice_get ys i ≡ Some z) × (1 ≤ count_by test (make (n + 1 + i) z))) → (i : ℕ) × (z : Y) × (slice_get (y ∷ ys) i ≡ Some z) × (1 ≤ count_by test (make (n + i) z))
      by zero e later =
          let c = count-append test (make n y) (each make (n + 1) ys) in
          let r = later (omega (arith, c, e, h)) in
          (suc r.0, r.1, r.2, subst (λ j. 1 ≤ count_by test (make j r.1)) (let i = r.0 in let q : n + 1 + i ≡ n + suc i = omega arith in q) r.3)
      by (suc c) e later = (0, y, refl, subst (λ j. 1 ≤ count_by test (make j y)) (let q : n ≡ n + 0 = omega arith in q) (let s : 1 ≤ count_by test (make n y) = omega (arith, e) in s))

  -- one is counted at most, where one item makes it, and only once
  pub made_once : (n : ℕ) (ys : List Y) → ((i : ℕ) (y : Y) → slice_get ys i ≡ Some y → count_by test (make (n + i) y) ≤ 1) → ((i k : ℕ) (y z : Y) → slice_get ys i ≡ Some y → slice_get ys k ≡ Some z → 1 ≤ count_by test (make (n + i) y) → 1 ≤ count_by test (make (n + k) z) → i ≡ k) → count_by test (each make n ys) ≤ 1
  made_once n [] few one = omega arith
  made_once n (y ∷ ys) few one =
      let c = count-append test (make n y) (each make (n + 1) ys) in
      let first : count_by test (make n y) ≤ 1 = subst (λ j. count_by test (make j y) ≤ 1) (let q : n + 0 ≡ n = omega arith in q) (few 0 y refl) in
      let later = made_once (n + 1) ys (λ i z e. subst (λ j. count_by test (make j z) ≤ 1) (shift i) (few (suc i) z e))
      (λ i k z w e g h l. less (one (suc i) (suc k) z w e g (subst (λ j. 1 ≤ count_by test (make j z)) (sym (shift i)) h) (subst (λ j. 1 ≤ count_by test (make j w)) (sym (shift k)) l))) in
      by (count_by test (make n y)) refl (count_by test (each make (n + 1) ys)) refl c first later
    where
      shift : (i : ℕ) → n + suc i ≡ n + 1 + i
      shift i = omega arith

      less : {i k : ℕ} → ◌≡◌ {A = ℕ} (suc i) (suc k) → i ≡ k
      less e = omega (arith, e)

      by : (a : ℕ) → count_by test (make n y) ≡ a → (b : ℕ) → count_by test (each make (n + 1) ys) ≡ b → count_by test (make n y ++ each make (n + 1) ys) ≡ count_by test (make n y) + count_by test (each make (n + 1) ys) → count_by test (make n y) ≤ 1 → count_by test (each make (n + 1) ys) ≤ 1 → count_by test (make n y ++ each make (n + 1) ys) ≤ 1
      by zero e b g c first later = omega (arith, c, e, later)
      by (suc a) e zero g c first later = omega (arith, c, g, first)
      by (suc a) e (suc b) g c first later =
          let r = made_some (n + 1) ys (omega (arith, g)) in
          let here : 1 ≤ count_by test (make (n + 0) y) = subst (λ j. 1 ≤ count_by test (make j y)) (let q : n ≡ n + 0 = omega arith in q) (let s : 1 ≤ count_by test (make n y) = omega (arith, e) in s) in
          let there : 1 ≤ count_by test (make (n + suc r.0) r.1) = subst (λ j. 1 ≤ count_by test (make j r.1)) (sym (shift r.0)) r.3 in
          let s : 0 ≡ suc r.0 = one 0 (suc r.0) y r.1 refl r.2 here there in
          absurd (omega (arith, s))
