-- Membership, sums, and lists of what some items give.
use Rattle.std.proofs.Common.{◌≡◌, ℕ, suc, ◌+◌, ◌≤◌, ◌⊎◌, inl, inr, Bool, true, false, cond, List, [], ◌∷◌, ◌++◌, length, map, filter, sum_by, Option, Some, None, slice_get, refl, sym, ap, subst, ◌∙◌, arith}
use Rattle.std.specs.List.{cons_option, filter_map, flat_map, list_any}
use Rattle.std.specs.Cmp.Lexicographic.{bytes_decides}
use Rattle.std.proofs.lemmas.Bool.{or_cases}
use Rattle.std.proofs.lemmas.List.Sums.{sum_by-append, sum_by-cons}
use Rattle.std.proofs.lemmas.Option.{none-some, same_Some}
use Rattle.ir_rules.specs.Lists.{Among, times}
use Rattle.ir_tree.specs.Names.{same}
use Rattle.spec_lists.specs.Each.{first_of}

abbrev pub Name : Type 0
Name = List ℕ

pub same_is : (n x : Name) → same n x ≡ true → n ≡ x
same_is n x h = (bytes_decides n x).0 h

pub same_self : (n : Name) → same n n ≡ true
same_self n = (bytes_decides n n).1 refl

-- ---- membership

pub among_left : {X : Type 0} (xs ys : List X) (x : X) → Among x xs → Among x (xs ++ ys)
among_left [] ys x at = absurd at
among_left (z ∷ zs) ys x (inl e) = inl e
among_left (z ∷ zs) ys x (inr at) = inr (among_left zs ys x at)

pub among_right : {X : Type 0} (xs ys : List X) (x : X) → Among x ys → Among x (xs ++ ys)
among_right [] ys x at = at
among_right (z ∷ zs) ys x at = inr (among_right zs ys x at)

pub among_either : {X : Type 0} (xs ys : List X) (x : X) → Among x (xs ++ ys) → Among x xs ⊎ Among x ys
among_either [] ys x at = inr at
among_either (z ∷ zs) ys x (inl e) = inl (inl e)
among_either (z ∷ zs) ys x (inr at) = further (among_either zs ys x at)
  where
    further : Among x zs ⊎ Among x ys → Among x (z ∷ zs) ⊎ Among x ys
    further (inl h) = inl (inr h)
    further (inr h) = inr h

pub place : {X : Type 0} (xs : List X) (x : X) → Among x xs → (k : ℕ) × (slice_get xs k ≡ Some x)
place [] x at = absurd at
place (y ∷ ys) x (inl e) = (0, ap Some (sym e))
place (y ∷ ys) x (inr at) = (let r = place ys x at in (suc r.0, r.1))

pub among_map : {X Y : Type 0} (g : X → Y) (xs : List X) (x : X) → Among x xs → Among (g x) (map g xs)
among_map g [] x at = absurd at
among_map g (y ∷ ys) x (inl e) = inl (ap g e)
among_map g (y ∷ ys) x (inr at) = inr (among_map g ys x at)

pub map_among : {X Y : Type 0} (g : X → Y) (xs : List X) (y : Y) → Among y (map g xs) → (x : X) × Among x xs × (y ≡ g x)
map_among g [] y at = absurd at
map_among g (x ∷ xs) y (inl e) = (x, inl refl, e)
map_among g (x ∷ xs) y (inr at) = let found = map_among g xs y at in (found.0, inr found.1, found.2)

pub flat_among : {X Y : Type 0} (g : X → List Y) (xs : List X) (y : Y) → Among y (flat_map g xs) → (x : X) × Among x xs × Among y (g x)
flat_among g [] y at = absurd at
flat_among {X} {Y} g (x ∷ xs) y at = by (among_either (g x) (flat_map g xs) y at) (λ h. flat_among g xs y h)
  where
    by : Among y (g x) ⊎ Among y (flat_map g xs) → (Among y (flat_map g xs) → (z : X) × Among z xs × Among y (g z)) → (z : X) × Among z (x ∷ xs) × Among y (g z)
    by (inl h) rest = (x, inl refl, h)
    by (inr h) rest = (let r = rest h in (r.0, inr r.1, r.2))

pub among_flat : {X Y : Type 0} (g : X → List Y) (xs : List X) (x : X) (y : Y) → Among x xs → Among y (g x) → Among y (flat_map g xs)
among_flat g [] x y at h = absurd at
among_flat {X} {Y} g (z ∷ zs) x y (inl e) h = among_left (g z) (flat_map g zs) y (subst (λ (w : X). Among y (g w)) e h)
among_flat g (z ∷ zs) x y (inr at) h = among_right (g z) (flat_map g zs) y (among_flat g zs x y at h)

pub filter_among : {X : Type 0} (test : X → Bool) (xs : List X) (x : X) → Among x (filter test xs) → Among x xs × (test x ≡ true)
filter_among test [] x at = absurd at
filter_among {X} test (y ∷ ys) x at = by (test y) refl at (λ h. filter_among test ys x h)
  where
    by : (b : Bool) → test y ≡ b → Among x (cond b (y ∷ filter test ys) (filter test ys)) → (Among x (filter test ys) → Among x ys × (test x ≡ true)) → Among x (y ∷ ys) × (test x ≡ true)
    by true t (inl e) rest = (inl e, ap (λ (z : X). test z) e ∙ t)
    by true t (inr h) rest = (let r = rest h in (inr r.0, r.1))
    by false t h rest = (let r = rest h in (inr r.0, r.1))

pub among_filter : {X : Type 0} (test : X → Bool) (xs : List X) (x : X) → Among x xs → test x ≡ true → Among x (filter test xs)
among_filter test [] x at h = absurd at
among_filter {X} test (y ∷ ys) x (inl e) h = subst (λ (b : Bool). Among x (cond b (y ∷ filter test ys) (filter test ys))) (sym (ap test (sym e) ∙ h)) (inl e)
among_filter test (y ∷ ys) x (inr at) h = by (test y) (among_filter test ys x at h)
  where
    by : (b : Bool) → Among x (filter test ys) → Among x (cond b (y ∷ filter test ys) (filter test ys))
    by true k = inr k
    by false k = k

pub some_of : {X : Type 0} (test : X → Bool) (xs : List X) → list_any test xs ≡ true → (x : X) × Among x xs × (test x ≡ true)
some_of test [] h = absurd (cc)
some_of {X} test (y ∷ ys) h = by (or_cases (test y) (list_any test ys) h) (λ k. some_of test ys k)
  where
    by : (test y ≡ true) ⊎ (list_any test ys ≡ true) → (list_any test ys ≡ true → (x : X) × Among x ys × (test x ≡ true)) → (x : X) × Among x (y ∷ ys) × (test x ≡ true)
    by (inl k) rest = (y, inl refl, k)
    by (inr k) rest = let found = rest k in (found.0, inr found.1, found.2)

-- ---- what some items give

pub among_made : {X Y : Type 0} (g : X → Option Y) (xs : List X) (y : Y) → Among y (filter_map g xs) → (x : X) × Among x xs × (g x ≡ Some y)
among_made g [] y at = absurd at
among_made {X} {Y} g (x ∷ xs) y at = by (g x) refl at (λ h. among_made g xs y h)
  where
    later : (z : X) × Among z xs × (g z ≡ Some y) → (z : X) × Among z (x ∷ xs) × (g z ≡ Some y)
    later (z, at, e) = (z, inr at, e)

    by : (o : Option Y) → g x ≡ o → Among y (cons_option o (filter_map g xs)) → (Among y (filter_map g xs) → (z : X) × Among z xs × (g z ≡ Some y)) → (z : X) × Among z (x ∷ xs) × (g z ≡ Some y)
    by None e h rest = later (rest h)
    by (Some w) e (inl q) rest = (x, inl refl, e ∙ ap Some (sym q))
    by (Some w) e (inr h) rest = later (rest h)

pub made_among : {X Y : Type 0} (g : X → Option Y) (xs : List X) (x : X) (y : Y) → Among x xs → g x ≡ Some y → Among y (filter_map g xs)
made_among g [] x y at e = absurd at
made_among {X} {Y} g (z ∷ zs) x y (inl q) e = subst (λ (o : Option Y). Among y (cons_option o (filter_map g zs))) (sym (ap g (sym q) ∙ e)) (inl refl)
made_among {X} {Y} g (z ∷ zs) x y (inr at) e = by (g z) (made_among g zs x y at e)
  where
    by : (o : Option Y) → Among y (filter_map g zs) → Among y (cons_option o (filter_map g zs))
    by None h = h
    by (Some w) h = inr h

pub none_made : {X Y : Type 0} (g : X → Option Y) (xs : List X) → ((x : X) → Among x xs → g x ≡ None) → filter_map g xs ≡ []
none_made g [] h = refl
none_made g (x ∷ xs) h = λ i. cons_option (h x (inl refl) i) (none_made g xs (λ y at. h y (inr at)) i)

pub first_among : {X : Type 0} (xs : List X) (x : X) → first_of xs ≡ Some x → Among x xs
first_among [] x e = absurd (none-some x e)
first_among (y ∷ ys) x e = inl (sym (same_Some y x e))

pub first_some : {X : Type 0} (xs : List X) (x : X) → Among x xs → (y : X) × (first_of xs ≡ Some y)
first_some [] x at = absurd at
first_some (y ∷ ys) x at = (y, refl)

-- ---- counts and sums

abbrev one : Name → Name → ℕ
one n x = cond {A = ℕ} (same n x) 1 0

pub times_cons : (n x : Name) (xs : List Name) → times n (x ∷ xs) ≡ one n x + times n xs
times_cons n x xs = sum_by-cons (one n) x xs

pub times_append : (n : Name) (xs ys : List Name) → times n (xs ++ ys) ≡ times n xs + times n ys
times_append n xs ys = sum_by-append (one n) xs ys

pub stands : (n : Name) (xs : List Name) → Among n xs → 1 ≤ times n xs
stands n [] at = absurd at
stands n (x ∷ xs) (inl e) = let here : one n x ≡ 1 = ap (λ (q : Name). one n q) (sym e) ∙ ap (λ (b : Bool). cond {A = ℕ} b 1 0) (same_self n) in omega (arith, here, times_cons n x xs)
stands n (x ∷ xs) (inr at) = omega (arith, stands n xs at, times_cons n x xs)

-- items that have their names apart are one where they have one name
pub only_one : {X : Type 0} (name : X → Name) (xs : List X) → ((n : Name) → times n (map name xs) ≤ 1) → (x y : X) → Among x xs → Among y xs → name x ≡ name y → x ≡ y
only_one name [] once x y at there e = absurd at
only_one name (z ∷ zs) once x y (inl p) (inl q) e = p ∙ sym q
only_one name (z ∷ zs) once x y (inl p) (inr there) e =
    absurd (let a = stands (name y) (map name zs) (among_map name zs y there) in let o = once (name y) in let here : one (name y) (name z) ≡ 1 = ap (λ (n : Name). one (name y) n) (sym (ap name p) ∙ e) ∙ ap (λ (b : Bool). cond {A = ℕ} b 1 0) (same_self (name y)) in omega (arith, a, o, here, times_cons (name y) (name z) (map name zs)))
only_one name (z ∷ zs) once x y (inr at) (inl q) e =
    absurd (let a = stands (name x) (map name zs) (among_map name zs x at) in let o = once (name x) in let here : one (name x) (name z) ≡ 1 = ap (λ (n : Name). one (name x) n) (sym (ap name q) ∙ sym e) ∙ ap (λ (b : Bool). cond {A = ℕ} b 1 0) (same_self (name x)) in omega (arith, a, o, here, times_cons (name x) (name z) (map name zs)))
only_one name (z ∷ zs) once x y (inr at) (inr there) e = only_one name zs (λ n. (let o = once n in omega (arith, o, times_cons n (name z) (map name zs)))) x y at there e

pub sum_zero : {X : Type 0} (v : X → ℕ) (xs : List X) → ((x : X) → Among x xs → v x ≡ 0) → sum_by v xs ≡ 0
sum_zero v [] h = refl
sum_zero v (x ∷ xs) h = (let here = h x (inl refl) in let rest = sum_zero v xs (λ y at. h y (inr at)) in omega (arith, here, rest, sum_by-cons v x xs))

pub sum_same : {X : Type 0} (v w : X → ℕ) (xs : List X) → ((x : X) → Among x xs → v x ≡ w x) → sum_by v xs ≡ sum_by w xs
sum_same v w [] h = refl
sum_same v w (x ∷ xs) h = (let here = h x (inl refl) in let rest = sum_same v w xs (λ y at. h y (inr at)) in omega (arith, here, rest, sum_by-cons v x xs, sum_by-cons w x xs))

pub sum_mapped : {X Y : Type 0} (v : Y → ℕ) (w : X → ℕ) (g : X → Y) (xs : List X) → ((x : X) → Among x xs → v (g x) ≤ w x) → sum_by v (map g xs) ≤ sum_by w xs
sum_mapped v w g [] h = omega arith
sum_mapped v w g (x ∷ xs) h = (let here = h x (inl refl) in let rest = sum_mapped v w g xs (λ y at. h y (inr at)) in omega (arith, here, rest, sum_by-cons v (g x) (map g xs), sum_by-cons w x xs))

-- of those that pass a test no more than of all
pub sum_filtered : {X : Type 0} (test : X → Bool) (v : X → ℕ) (xs : List X) → sum_by v (filter test xs) ≤ sum_by v xs
sum_filtered test v [] = omega arith
sum_filtered test v (x ∷ xs) = by (test x) (sum_filtered test v xs)
  where
    by : (b : Bool) → sum_by v (filter test xs) ≤ sum_by v xs → sum_by v (cond b (x ∷ filter test xs) (filter test xs)) ≤ sum_by v (x ∷ xs)
    by true rest = omega (arith, rest, sum_by-cons v x xs, sum_by-cons v x (filter test xs))
    by false rest = omega (arith, rest, sum_by-cons v x xs)

pub filter_length : {X : Type 0} (test : X → Bool) (xs : List X) → length (filter test xs) ≤ length xs
filter_length test [] = omega arith
filter_length test (x ∷ xs) = by (test x) (filter_length test xs)
  where
    by : (b : Bool) → length (filter test xs) ≤ length xs → length (cond b (x ∷ filter test xs) (filter test xs)) ≤ suc (length xs)
    by true rest = omega (arith, rest)
    by false rest = omega (arith, rest)

-- and less, where one of them fails
pub filter_less : {X : Type 0} (test : X → Bool) (xs : List X) (x : X) → Among x xs → test x ≡ false → suc (length (filter test xs)) ≤ length xs
filter_less test [] x at h = absurd at
filter_less {X} test (y ∷ ys) x (inl e) h =
    let few = filter_length test ys in
    let same_length : length (filter test (y ∷ ys)) ≡ length (filter test ys) = ap (λ (b : Bool). length (cond b (y ∷ filter test ys) (filter test ys))) (ap test (sym e) ∙ h) in
    omega (arith, few, same_length)
filter_less test (y ∷ ys) x (inr at) h = by (test y) (filter_less test ys x at h)
  where
    by : (b : Bool) → suc (length (filter test ys)) ≤ length ys → suc (length (cond b (y ∷ filter test ys) (filter test ys))) ≤ suc (length ys)
    by true rest = omega (arith, rest)
    by false rest = omega (arith, rest)
