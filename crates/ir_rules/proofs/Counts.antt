-- Names that are counted: a list whose names are new one after the other has none twice.
use Rattle.std.proofs.Common.{◌≡◌, ℕ, zero, suc, ◌+◌, ◌≤◌, Bool, true, false, cond, List, [], ◌∷◌, ◌++◌, take, Option, None, Some, slice_get, refl, ap, ◌∙◌, arith}
use Rattle.std.specs.List.{cons_option, filter_map}
use Rattle.std.proofs.lemmas.Bool.{and_from, and_parts, eq-eqb, eqb-true}
use Rattle.std.proofs.lemmas.List.Sums.{sum_by-append, sum_by-cons}
use Rattle.std.proofs.lemmas.Option.{none-some, same_Some}
use Rattle.ir_rules.proofs.Members.{is_same, same_is}
use Rattle.ir_rules.specs.Lists.{are_new, is_new, times}
use Rattle.ir_tree.specs.Names.{same}

abbrev pub Name : Type 0
Name = List ℕ

abbrev pub one : Name → Name → ℕ
one n x = cond {A = ℕ} (same n x) 1 0

pub times_cons : (n x : Name) (xs : List Name) → times n (x ∷ xs) ≡ one n x + times n xs
times_cons n x xs = sum_by-cons (one n) x xs

pub times_append : (n : Name) (xs ys : List Name) → times n (xs ++ ys) ≡ times n xs + times n ys
times_append n xs ys = sum_by-append (one n) xs ys

pub one_self : (n : Name) → one n n ≡ 1
one_self n = ap (λ (b : Bool). cond {A = ℕ} b 1 0) (is_same n n refl)

pub new_is : (n : Name) (xs : List Name) → is_new n xs ≡ true → times n xs ≡ 0
new_is n xs h = eqb-true (times n xs) 0 h

pub is_new_from : (n : Name) (xs : List Name) → times n xs ≡ 0 → is_new n xs ≡ true
is_new_from n xs h = eq-eqb (times n xs) 0 h

-- a count of at most 1 that grows by a name that is new to it
pub grows : (c : Name → ℕ) → ((n : Name) → c n ≤ 1) → (x : Name) → c x ≡ 0 → (n : Name) → c n + one n x ≤ 1
grows c few x fresh n = by (same n x) refl
  where
    by : (b : Bool) → same n x ≡ b → c n + cond {A = ℕ} b 1 0 ≤ 1
    by true e = let zero_here : c n ≡ 0 = ap c (same_is n x e) ∙ fresh in omega (arith, zero_here)
    by false e = let most : c n ≤ 1 = few n in omega (arith, most)

-- ---- a plain list

pub few_news : (names xs : List Name) → ((n : Name) → times n names ≤ 1) → are_new names xs ≡ true → (n : Name) → times n names + times n xs ≤ 1
few_news names [] few h n = let most : times n names ≤ 1 = few n in omega (arith, most)
few_news names (x ∷ xs) few h n =
    let parts = and_parts (is_new x names) (are_new (x ∷ names) xs) h in
    let step : (q : Name) → times q (x ∷ names) ≤ 1 = λ q. let more : times q names + one q x ≤ 1 = grows (λ p. times p names) few x (new_is x names parts.0) q in let made : times q (x ∷ names) ≡ one q x + times q names = times_cons q x names in omega (arith, more, made) in
    let rest : times n (x ∷ names) + times n xs ≤ 1 = few_news (x ∷ names) xs step parts.1 n in
    omega (arith, rest, times_cons n x names, times_cons n x xs)

pub news_few : (names xs : List Name) → ((n : Name) → times n names + times n xs ≤ 1) → are_new names xs ≡ true
news_few names [] few = refl
news_few names (x ∷ xs) few =
    let here : times x names + times x (x ∷ xs) ≤ 1 = few x in
    let fresh : times x names ≡ 0 = omega (arith, here, times_cons x x xs, one_self x) in
    and_from (is_new x names) (are_new (x ∷ names) xs) (is_new_from x names fresh) (news_few (x ∷ names) xs (λ n. let all : times n names + times n (x ∷ xs) ≤ 1 = few n in omega (arith, all, times_cons n x names, times_cons n x xs)))

-- ---- what is made of the items of a list, one name at most of each

-- how often a name stands in one that may be there
abbrev pub one_in : Name → Option Name → ℕ
one_in n None = 0
one_in n (Some r) = one n r

times_option : (n : Name) (o : Option Name) (ns : List Name) → times n (cons_option o ns) ≡ one_in n o + times n ns
times_option n None ns = omega arith
times_option n (Some r) ns = times_cons n r ns

module _ {X : Type 0} (h : X → Option Name) where
  -- what each item makes is new to the count and to what those before it made
  abbrev pub FreshMade : (Name → ℕ) → List X → Type 0
  FreshMade c xs = (i : ℕ) (x : X) (r : Name) → slice_get xs i ≡ Some x → h x ≡ Some r → c r + times r (filter_map h (take i xs)) ≡ 0

  abbrev after : (Name → ℕ) → X → Name → ℕ
  after c x n = c n + one_in n (h x)

  few_after : (c : Name → ℕ) (x : X) → ((n : Name) → c n ≤ 1) → ((r : Name) → h x ≡ Some r → c r ≡ 0) → (n : Name) → after c x n ≤ 1
  few_after c x few fresh n = by (h x) refl
    where
      by : (o : Option Name) → h x ≡ o → c n + one_in n o ≤ 1
      by None e = let most : c n ≤ 1 = few n in omega (arith, most)
      by (Some r) e = grows c few r (fresh r e) n

  times_made : (n : Name) (x : X) (xs : List X) → times n (filter_map h (x ∷ xs)) ≡ one_in n (h x) + times n (filter_map h xs)
  times_made n x xs = times_option n (h x) (filter_map h xs)

  pub few_made : (c : Name → ℕ) (xs : List X) → ((n : Name) → c n ≤ 1) → FreshMade c xs → (n : Name) → c n + times n (filter_map h xs) ≤ 1
  few_made c [] few fresh n = let most : c n ≤ 1 = few n in omega (arith, most)
  few_made c (x ∷ xs) few fresh n =
      let first : (r : Name) → h x ≡ Some r → c r ≡ 0 = λ r e. let nothing : c r + 0 ≡ 0 = fresh 0 x r refl e in omega (arith, nothing) in
      let later : FreshMade (after c x) xs = λ i y r at e. let zero_there : c r + times r (filter_map h (take (suc i) (x ∷ xs))) ≡ 0 = fresh (suc i) y r at e in omega (arith, zero_there, times_made r x (take i xs)) in
      let rest : after c x n + times n (filter_map h xs) ≤ 1 = few_made (after c x) xs (few_after c x few first) later n in
      omega (arith, rest, times_made n x xs)

  pub made_fresh : (c : Name → ℕ) (xs : List X) → ((n : Name) → c n + times n (filter_map h xs) ≤ 1) → FreshMade c xs
  made_fresh c [] few i x r at e = absurd (none-some x at)
  made_fresh c (y ∷ ys) few zero x r at e =
      let here : h y ≡ Some r = ap h (same_Some y x at) ∙ e in
      let counted : one_in r (h y) ≡ 1 = ap (λ (o : Option Name). one_in r o) here ∙ one_self r in
      let most : c r + times r (filter_map h (y ∷ ys)) ≤ 1 = few r in
      let left : c r + 0 ≡ 0 = omega (arith, most, counted, times_made r y ys) in
      left
  made_fresh c (y ∷ ys) few (suc i) x r at e =
      let rest : after c y r + times r (filter_map h (take i ys)) ≡ 0 = made_fresh (after c y) ys (λ n. let most : c n + times n (filter_map h (y ∷ ys)) ≤ 1 = few n in omega (arith, most, times_made n y ys)) i x r at e in
      let back : c r + times r (filter_map h (take (suc i) (y ∷ ys))) ≡ 0 = omega (arith, rest, times_made r y (take i ys)) in
      back
