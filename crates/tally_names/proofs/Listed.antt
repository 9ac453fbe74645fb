-- Membership, counts of names, and lists of what some items give.
use Rattle.std.proofs.Common.{◌≡◌, ℕ, ◌+◌, ◌≤◌, ◌⊎◌, inl, inr, Bool, true, false, cond, List, [], ◌∷◌, ◌++◌, map, filter, Option, Some, None, refl, sym, ap, subst, ◌∙◌, arith}
use Rattle.std.specs.List.{cons_option, filter_map, list_any}
use Rattle.std.specs.Cmp.Lexicographic.{bytes_decides}
use Rattle.std.proofs.lemmas.Bool.{or_cases, or_left, or_right}
use Rattle.std.proofs.lemmas.List.Sums.{sum_by-append, sum_by-cons}
use Rattle.ir_rules.specs.Lists.{Among, times}
use Rattle.ir_tree.specs.Names.{same}

abbrev pub Name : Type 0
Name = List ℕ

pub same_is : (n x : Name) → same n x ≡ true → n ≡ x
same_is n x h = (bytes_decides n x).0 h

pub same_self : (n : Name) → same n n ≡ true
same_self n = (bytes_decides n n).1 refl

pub among_map : {X Y : Type 0} (g : X → Y) (xs : List X) (x : X) → Among x xs → Among (g x) (map g xs)
among_map g [] x at = absurd at
among_map g (y ∷ ys) x (inl e) = inl (ap g e)
among_map g (y ∷ ys) x (inr at) = inr (among_map g ys x at)

pub filter_among : {X : Type 0} (test : X → Bool) (xs : List X) (x : X) → Among x (filter test xs) → Among x xs × (test x ≡ true)
filter_among test [] x at = absurd at
filter_among {X} test (y ∷ ys) x at = by (test y) refl at (λ h. filter_among test ys x h)
  where
    by : (b : Bool) → test y ≡ b → Among x (cond b (y ∷ filter test ys) (filter test ys)) → (Among x (filter test ys) → Among x ys × (test x ≡ true)) → Among x (y ∷ ys) × (test x ≡ true)
    by true t (inl e) rest = (inl e, ap (λ (z : X). test z) e ∙ t)
    by true t (inr h) rest = (let r = rest h in (inr r.0, r.1))
    by false t h rest = (let r = rest h in (inr r.0, r.1))

pub made_among : {X Y : Type 0} (g : X → Option Y) (xs : List X) (x : X) (y : Y) → Among x xs → g x ≡ Some y → Among y (filter_map g xs)
made_among g [] x y at e = absurd at
made_among {X} {Y} g (z ∷ zs) x y (inl q) e = subst (λ (o : Option Y). Among y (cons_option o (filter_map g zs))) (sym (ap g (sym q) ∙ e)) (inl refl)
made_among {X} {Y} g (z ∷ zs) x y (inr at) e = by (g z) (made_among g zs x y at e)
  where
    by : (o : Option Y) → Among y (filter_map g zs) → Among y (cons_option o (filter_map g zs))
    by None h = h
    by (Some w) h = inr h

pub some_of : {X : Type 0} (test : X → Bool) (xs : List X) → list_any test xs ≡ true → (x : X) × Among x xs × (test x ≡ true)
some_of test [] h = absurd (cc)
some_of {X} test (y ∷ ys) h = by (or_cases (test y) (list_any test ys) h) (λ k. some_of test ys k)
  where
    by : (test y ≡ true) ⊎ (list_any test ys ≡ true) → (list_any test ys ≡ true → (x : X) × Among x ys × (test x ≡ true)) → (x : X) × Among x (y ∷ ys) × (test x ≡ true)
    by (inl k) rest = (y, inl refl, k)
    by (inr k) rest = let found = rest k in (found.0, inr found.1, found.2)

pub any_of : {X : Type 0} (test : X → Bool) (xs : List X) (x : X) → Among x xs → test x ≡ true → list_any test xs ≡ true
any_of test [] x at h = absurd at
any_of {X} test (y ∷ ys) x (inl e) h = or_left (test y) (list_any test ys) (ap (λ (z : X). test z) (sym e) ∙ h)
any_of test (y ∷ ys) x (inr at) h = or_right (test y) (list_any test ys) (any_of test ys x at h)

abbrev pub one : Name → Name → ℕ
one n x = cond {A = ℕ} (same n x) 1 0

pub one_self : (n : Name) → one n n ≡ 1
one_self n = ap (λ (b : Bool). cond {A = ℕ} b 1 0) (same_self n)

pub times_cons : (n x : Name) (xs : List Name) → times n (x ∷ xs) ≡ one n x + times n xs
times_cons n x xs = sum_by-cons (one n) x xs

pub times_append : (n : Name) (xs ys : List Name) → times n (xs ++ ys) ≡ times n xs + times n ys
times_append n xs ys = sum_by-append (one n) xs ys

pub stands : (n : Name) (xs : List Name) → Among n xs → 1 ≤ times n xs
stands n [] at = absurd at
stands n (x ∷ xs) (inl e) = let here : one n x ≡ 1 = ap (λ (q : Name). one n q) (sym e) ∙ one_self n in omega (arith, here, times_cons n x xs)
stands n (x ∷ xs) (inr at) = omega (arith, stands n xs at, times_cons n x xs)
