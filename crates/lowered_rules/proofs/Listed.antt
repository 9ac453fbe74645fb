-- Membership, counts of names, and lists of what some items give.
use Rattle.std.proofs.Common.{◌≡◌, ℕ, zero, suc, ◌+◌, ◌≤◌, ◌⊎◌, inl, inr, Bool, true, false, cond, List, [], ◌∷◌, ◌++◌, map, filter, Option, Some, None, refl, sym, ap, subst, ◌∙◌, arith}
use Rattle.std.specs.List.{cons_option, filter_map, flat_map, list_any}
use Rattle.std.specs.Cmp.Lexicographic.{bytes_decides}
use Rattle.std.proofs.lemmas.Bool.{or_cases, or_left, or_right}
use Rattle.std.proofs.lemmas.List.Sums.{sum_by-append, sum_by-cons}
use Rattle.ir_rules.specs.Lists.{Among, is_among, times}
use Rattle.ir_tree.specs.Names.{same}

abbrev pub Name : Type 0
Name = List ℕ

pub same_is : (n x : Name) → same n x ≡ true → n ≡ x
same_is n x h = (bytes_decides n x).0 h

pub same_self : (n : Name) → same n n ≡ true
same_self n = (bytes_decides n n).1 refl

pub not_both : (b : Bool) → b ≡ true → b ≡ false → ⊥
not_both b e f = absurd (cc (sym e ∙ f))

pub not_true : (b : Bool) → (b ≡ true → ⊥) → b ≡ false
not_true true h = absurd (h refl)
not_true false h = refl

-- ---- membership

pub among_left : {X : Type 0} (xs ys : List X) (x : X) → Among x xs → Among x (xs ++ ys)
among_left [] ys x at = absurd at
among_left (z ∷ zs) ys x (inl e) = inl e
among_left (z ∷ zs) ys x (inr at) = inr (among_left zs ys x at)

pub among_right : {X : Type 0} (xs ys : List X) (x : X) → Among x ys → Among x (xs ++ ys)
among_right [] ys x at = at
among_right (z ∷ zs) ys x at = inr (among_right zs ys x at)

pub among_either : {X : Type 0} (xs ys : List X) (x : X) → Among x (xs ++ ys) → Among x xs ⊎ Among x ys
among_either [] ys x at = inr at
among_either (z ∷ zs) ys x (inl e) = inl (inl e)
among_either (z ∷ zs) ys x (inr at) = further (among_either zs ys x at)
  where
    further : Among x zs ⊎ Among x ys → Among x (z ∷ zs) ⊎ Among x ys
    further (inl h) = inl (inr h)
    further (inr h) = inr h

pub among_map : {X Y : Type 0} (g : X → Y) (xs : List X) (x : X) → Among x xs → Among (g x) (map g xs)
among_map g [] x at = absurd at
among_map g (y ∷ ys) x (inl e) = inl (ap g e)
among_map g (y ∷ ys) x (inr at) = inr (among_map g ys x at)

pub map_among : {X Y : Type 0} (g : X → Y) (xs : List X) (y : Y) → Among y (map g xs) → (x : X) × Among x xs × (y ≡ g x)
map_among g [] y at = absurd at
map_among g (x ∷ xs) y (inl e) = (x, inl refl, e)
map_among g (x ∷ xs) y (inr at) = let found = map_among g xs y at in (found.0, inr found.1, found.2)

pub flat_among : {X Y : Type 0} (g : X → List Y) (xs : List X) (y : Y) → Among y (flat_map g xs) → (x : X) × Among x xs × Among y (g x)
flat_among g [] y at = absurd at
flat_among {X} {Y} g (x ∷ xs) y at = by (among_either (g x) (flat_map g xs) y at) (λ h. flat_among g xs y h)
  where
    by : Among y (g x) ⊎ Among y (flat_map g xs) → (Among y (flat_map g xs) → (z : X) × Among z xs × Among y (g z)) → (z : X) × Among z (x ∷ xs) × Among y (g z)
    by (inl h) rest = (x, inl refl, h)
    by (inr h) rest = (let r = rest h in (r.0, inr r.1, r.2))

pub among_flat : {X Y : Type 0} (g : X → List Y) (xs : List X) (x : X) (y : Y) → Among x xs → Among y (g x) → Among y (flat_map g xs)
among_flat g [] x y at h = absurd at
among_flat {X} {Y} g (z ∷ zs) x y (inl e) h = among_left (g z) (flat_map g zs) y (subst (λ (w : X). Among y (g w)) e h)
among_flat g (z ∷ zs) x y (inr at) h = among_right (g z) (flat_map g zs) y (among_flat g zs x y at h)

pub filter_among : {X : Type 0} (test : X → Bool) (xs : List X) (x : X) → Among x (filter test xs) → Among x xs × (test x ≡ true)
filter_among test [] x at = absurd at
filter_among {X} test (y ∷ ys) x at = by (test y) refl at (λ h. filter_among test ys x h)
  where
    by : (b : Bool) → test y ≡ b → Among x (cond b (y ∷ filter test ys) (filter test ys)) → (Among x (filter test ys) → Among x ys × (test x ≡ true)) → Among x (y ∷ ys) × (test x ≡ true)
    by true t (inl e) rest = (inl e, ap (λ (z : X). test z) e ∙ t)
    by true t (inr h) rest = (let r = rest h in (inr r.0, r.1))
    by false t h rest = (let r = rest h in (inr r.0, r.1))

pub among_filter : {X : Type 0} (test : X → Bool) (xs : List X) (x : X) → Among x xs → test x ≡ true → Among x (filter test xs)
among_filter test [] x at h = absurd at
among_filter {X} test (y ∷ ys) x (inl e) h = subst (λ (b : Bool). Among x (cond b (y ∷ filter test ys) (filter test ys))) (sym (ap test (sym e) ∙ h)) (inl e)
among_filter test (y ∷ ys) x (inr at) h = by (test y) (among_filter test ys x at h)
  where
    by : (b : Bool) → Among x (filter test ys) → Among x (cond b (y ∷ filter test ys) (filter test ys))
    by true k = inr k
    by false k = k

-- ---- what some items give

pub among_made : {X Y : Type 0} (g : X → Option Y) (xs : List X) (y : Y) → Among y (filter_map g xs) → (x : X) × Among x xs × (g x ≡ Some y)
among_made g [] y at = absurd at
among_made {X} {Y} g (x ∷ xs) y at = by (g x) refl at (λ h. among_made g xs y h)
  where
    later : (z : X) × Among z xs × (g z ≡ Some y) → (z : X) × Among z (x ∷ xs) × (g z ≡ Some y)
    later (z, at, e) = (z, inr at, e)

    by : (o : Option Y) → g x ≡ o → Among y (cons_option o (filter_map g xs)) → (Among y (filter_map g xs) → (z : X) × Among z xs × (g z ≡ Some y)) → (z : X) × Among z (x ∷ xs) × (g z ≡ Some y)
    by None e h rest = later (rest h)
    by (Some w) e (inl q) rest = (x, inl refl, e ∙ ap Some (sym q))
    by (Some w) e (inr h) rest = later (rest h)

pub made_among : {X Y : Type 0} (g : X → Option Y) (xs : List X) (x : X) (y : Y) → Among x xs → g x ≡ Some y → Among y (filter_map g xs)
made_among g [] x y at e = absurd at
made_among {X} {Y} g (z ∷ zs) x y (inl q) e = subst (λ (o : Option Y). Among y (cons_option o (filter_map g zs))) (sym (ap g (sym q) ∙ e)) (inl refl)
made_among {X} {Y} g (z ∷ zs) x y (inr at) e = by (g z) (made_among g zs x y at e)
  where
    by : (o : Option Y) → Among y (filter_map g zs) → Among y (cons_option o (filter_map g zs))
    by None h = h
    by (Some w) h = inr h

pub made_none : {X Y : Type 0} (g : X → Option Y) (xs : List X) → filter_map g xs ≡ [] → (x : X) → Among x xs → g x ≡ None
made_none g xs none x at = by (g x) refl
  where
    by : (o : Option _) → g x ≡ o → o ≡ None
    by None e = refl
    by (Some y) e = absurd (subst (λ (ys : List _). Among y ys) none (made_among g xs x y at e))

-- what is made of items, each first changed to one of which the same is made
pub same_made : {X Y : Type 0} (g : X → Option Y) (h : X → X) (xs : List X) → ((x : X) → Among x xs → g (h x) ≡ g x) → filter_map g (map h xs) ≡ filter_map g xs
same_made g h [] stays = refl
same_made g h (x ∷ xs) stays = λ i. cons_option (stays x (inl refl) i) (same_made g h xs (λ y at. stays y (inr at)) i)

pub nil_left : {Y : Type 0} (ys zs : List Y) → ys ++ zs ≡ [] → ys ≡ []
nil_left [] zs h = refl
nil_left (y ∷ ys) zs h = cc

pub nil_right : {Y : Type 0} (ys zs : List Y) → ys ++ zs ≡ [] → zs ≡ []
nil_right [] zs h = h
nil_right (y ∷ ys) zs h = cc

-- ---- tests

pub some_of : {X : Type 0} (test : X → Bool) (xs : List X) → list_any test xs ≡ true → (x : X) × Among x xs × (test x ≡ true)
some_of test [] h = absurd (cc)
some_of {X} test (y ∷ ys) h = by (or_cases (test y) (list_any test ys) h) (λ k. some_of test ys k)
  where
    by : (test y ≡ true) ⊎ (list_any test ys ≡ true) → (list_any test ys ≡ true → (x : X) × Among x ys × (test x ≡ true)) → (x : X) × Among x (y ∷ ys) × (test x ≡ true)
    by (inl k) rest = (y, inl refl, k)
    by (inr k) rest = let found = rest k in (found.0, inr found.1, found.2)

pub any_of : {X : Type 0} (test : X → Bool) (xs : List X) (x : X) → Among x xs → test x ≡ true → list_any test xs ≡ true
any_of test [] x at h = absurd at
any_of {X} test (y ∷ ys) x (inl e) h = or_left (test y) (list_any test ys) (ap (λ (z : X). test z) (sym e) ∙ h)
any_of test (y ∷ ys) x (inr at) h = or_right (test y) (list_any test ys) (any_of test ys x at h)

pub among_is : (n : Name) (xs : List Name) → is_among n xs ≡ true → Among n xs
among_is n xs h = (let r = some_of (same n) xs h in subst (λ (x : Name). Among x xs) (sym (same_is n r.0 r.2)) r.1)

pub is_member : (n : Name) (xs : List Name) → Among n xs → is_among n xs ≡ true
is_member n xs at = any_of (same n) xs n at (same_self n)

pub no_member : (n : Name) (xs : List Name) → (Among n xs → ⊥) → is_among n xs ≡ false
no_member n xs none = not_true (is_among n xs) (λ h. none (among_is n xs h))

-- ---- counts

abbrev pub one : Name → Name → ℕ
one n x = cond {A = ℕ} (same n x) 1 0

pub one_self : (n : Name) → one n n ≡ 1
one_self n = ap (λ (b : Bool). cond {A = ℕ} b 1 0) (same_self n)

pub times_cons : (n x : Name) (xs : List Name) → times n (x ∷ xs) ≡ one n x + times n xs
times_cons n x xs = sum_by-cons (one n) x xs

pub times_append : (n : Name) (xs ys : List Name) → times n (xs ++ ys) ≡ times n xs + times n ys
times_append n xs ys = sum_by-append (one n) xs ys

pub stands : (n : Name) (xs : List Name) → Among n xs → 1 ≤ times n xs
stands n [] at = absurd at
stands n (x ∷ xs) (inl e) = let here : one n x ≡ 1 = ap (λ (q : Name). one n q) (sym e) ∙ one_self n in omega (arith, here, times_cons n x xs)
stands n (x ∷ xs) (inr at) = omega (arith, stands n xs at, times_cons n x xs)

pub standing : (n : Name) (xs : List Name) → 1 ≤ times n xs → Among n xs
standing n [] h = absurd (omega (arith, h))
standing n (x ∷ xs) h = by (same n x) refl (λ k. standing n xs k)
  where
    by : (b : Bool) → same n x ≡ b → (1 ≤ times n xs → Among n xs) → Among n (x ∷ xs)
    by true e rest = inl (same_is n x e)
    by false e rest = let none : one n x ≡ 0 = ap (λ (b : Bool). cond {A = ℕ} b 1 0) e in inr (rest (omega (arith, h, none, times_cons n x xs)))

pub none_stands : (n : Name) (xs : List Name) → (Among n xs → ⊥) → times n xs ≡ 0
none_stands n xs none = by (times n xs) refl
  where
    by : (k : ℕ) → times n xs ≡ k → k ≡ 0
    by zero e = refl
    by (suc k) e = absurd (none (standing n xs (omega (arith, e))))
