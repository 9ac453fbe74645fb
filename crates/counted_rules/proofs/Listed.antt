-- Membership, counts of names, and lists that are made item by item.
use Rattle.std.proofs.Common.{◌≡◌, ℕ, zero, suc, ◌+◌, ◌≤◌, ◌⊎◌, inl, inr, Bool, true, false, cond, List, [], ◌∷◌, ◌++◌, map, take, drop, Some, slice_get, refl, sym, ap, subst, ◌∙◌, arith, zero-add}
use Rattle.std.specs.List.{flat_map, list_all}
use Rattle.std.specs.Cmp.Lexicographic.{bytes_decides}
use Rattle.std.proofs.lemmas.Bool.{and_from, and_parts}
use Rattle.std.proofs.lemmas.List.Sums.{sum_by-append, sum_by-cons}
use Rattle.std.proofs.lemmas.Option.{none-some, same_Some}
use Rattle.ir_rules.specs.Lists.{Among, times}
use Rattle.ir_tree.specs.Names.{same}
use Rattle.spec_lists.specs.Each.{each}

abbrev pub Name : Type 0
Name = List ℕ

pub same_is : (n x : Name) → same n x ≡ true → n ≡ x
same_is n x h = (bytes_decides n x).0 h

pub same_self : (n : Name) → same n n ≡ true
same_self n = (bytes_decides n n).1 refl

pub not_same : (n l : Name) → (n ≡ l → ⊥) → same n l ≡ false
not_same n l apart = by (same n l) refl
  where
    by : (b : Bool) → same n l ≡ b → b ≡ false
    by true e = absurd (apart (same_is n l e))
    by false e = refl

-- ---- membership

pub at_among : {X : Type 0} (xs : List X) (i : ℕ) (x : X) → slice_get xs i ≡ Some x → Among x xs
at_among [] i x at = absurd (none-some x at)
at_among (y ∷ ys) zero x at = inl (sym (same_Some y x at))
at_among (y ∷ ys) (suc i) x at = inr (at_among ys i x at)

pub among_at : {X : Type 0} (xs : List X) (x : X) → Among x xs → (i : ℕ) × (slice_get xs i ≡ Some x)
among_at [] x at = absurd at
among_at (y ∷ ys) x (inl e) = (0, ap Some (sym e))
among_at (y ∷ ys) x (inr at) = let found = among_at ys x at in (suc found.0, found.1)

pub among_left : {X : Type 0} (xs ys : List X) (x : X) → Among x xs → Among x (xs ++ ys)
among_left [] ys x at = absurd at
among_left (z ∷ zs) ys x (inl e) = inl e
among_left (z ∷ zs) ys x (inr at) = inr (among_left zs ys x at)

pub among_right : {X : Type 0} (xs ys : List X) (x : X) → Among x ys → Among x (xs ++ ys)
among_right [] ys x at = at
among_right (z ∷ zs) ys x at = inr (among_right zs ys x at)

pub among_either : {X : Type 0} (xs ys : List X) (x : X) → Among x (xs ++ ys) → Among x xs ⊎ Among x ys
among_either [] ys x at = inr at
among_either (z ∷ zs) ys x (inl e) = inl (inl e)
among_either (z ∷ zs) ys x (inr at) = further (among_either zs ys x at)
  where
    further : Among x zs ⊎ Among x ys → Among x (z ∷ zs) ⊎ Among x ys
    further (inl h) = inl (inr h)
    further (inr h) = inr h

pub among_map : {X Y : Type 0} (g : X → Y) (xs : List X) (x : X) → Among x xs → Among (g x) (map g xs)
among_map g [] x at = absurd at
among_map g (y ∷ ys) x (inl e) = inl (ap g e)
among_map g (y ∷ ys) x (inr at) = inr (among_map g ys x at)

pub map_among : {X Y : Type 0} (g : X → Y) (xs : List X) (y : Y) → Among y (map g xs) → (x : X) × Among x xs × (y ≡ g x)
map_among g [] y at = absurd at
map_among g (x ∷ xs) y (inl e) = (x, inl refl, e)
map_among g (x ∷ xs) y (inr at) = let found = map_among g xs y at in (found.0, inr found.1, found.2)

pub flat_among : {X Y : Type 0} (g : X → List Y) (xs : List X) (y : Y) → Among y (flat_map g xs) → (x : X) × Among x xs × Among y (g x)
flat_among g [] y at = absurd at
flat_among g (x ∷ xs) y at = by (among_either (g x) (flat_map g xs) y at) (λ h. flat_among g xs y h)
  where
    by : Among y (g x) ⊎ Among y (flat_map g xs) → (Among y (flat_map g xs) → (z : _) × Among z xs × Among y (g z)) → (z : _) × Among z (x ∷ xs) × Among y (g z)
    by (inl h) rest = (x, inl refl, h)
    by (inr h) rest = (let r = rest h in (r.0, inr r.1, r.2))

pub among_flat : {X Y : Type 0} (g : X → List Y) (xs : List X) (x : X) (y : Y) → Among x xs → Among y (g x) → Among y (flat_map g xs)
among_flat g [] x y at h = absurd at
among_flat {X} {Y} g (z ∷ zs) x y (inl e) h = among_left (g z) (flat_map g zs) y (subst (λ (w : X). Among y (g w)) e h)
among_flat g (z ∷ zs) x y (inr at) h = among_right (g z) (flat_map g zs) y (among_flat g zs x y at h)

pub taken_among : {X : Type 0} (k : ℕ) (xs : List X) (x : X) → Among x (take k xs) → Among x xs
taken_among zero xs x at = absurd at
taken_among (suc k) [] x at = at
taken_among (suc k) (y ∷ ys) x (inl e) = inl e
taken_among (suc k) (y ∷ ys) x (inr at) = inr (taken_among k ys x at)

pub dropped_among : {X : Type 0} (k : ℕ) (xs : List X) (x : X) → Among x (drop k xs) → Among x xs
dropped_among zero xs x at = at
dropped_among (suc k) [] x at = at
dropped_among (suc k) (y ∷ ys) x at = inr (dropped_among k ys x at)

pub each_of : {X : Type 0} (test : X → Bool) (xs : List X) → list_all test xs ≡ true → (x : X) → Among x xs → test x ≡ true
each_of test [] h x at = absurd at
each_of {X} test (y ∷ ys) h x (inl e) = ap (λ (z : X). test z) e ∙ (and_parts (test y) (list_all test ys) h).0
each_of test (y ∷ ys) h x (inr at) = each_of test ys (and_parts (test y) (list_all test ys) h).1 x at

pub all_of : {X : Type 0} (test : X → Bool) (xs : List X) → ((x : X) → Among x xs → test x ≡ true) → list_all test xs ≡ true
all_of test [] h = refl
all_of test (y ∷ ys) h = and_from (test y) (list_all test ys) (h y (inl refl)) (all_of test ys (λ x at. h x (inr at)))

-- ---- what is made item by item

module _ {X Y : Type 0} (make : ℕ → X → List Y) where
  pub each_from : (n : ℕ) (xs : List X) (y : Y) → Among y (each make n xs) → (i : ℕ) × (x : X) × (slice_get xs i ≡ Some x) × Among y (make (n + i) x)
  each_from n [] y at = absurd at
  each_from n (x ∷ xs) y at = by (among_either (make n x) (each make (n + 1) xs) y at) (λ h. each_from (n + 1) xs y h)
    where
      by : Among y (make n x) ⊎ Among y (each make (n + 1) xs) → (Among y (each make (n + 1) xs) → (i : ℕ) × (z : X) × (slice_get xs i ≡ Some z) × Among y (make (n + 1 + i) z)) → (i : ℕ) × (z : X) × (slice_get (x ∷ xs) i ≡ Some z) × Among y (make (n + i) z)
      by (inl h) more = (0, x, refl, subst (λ (k : ℕ). Among y (make k x)) (let e : n ≡ n + 0 = omega arith in e) h)
      by (inr h) more =
          let r = more h in
          let i : ℕ = r.0 in
          (suc i, r.1, r.2, subst (λ (k : ℕ). Among y (make k r.1)) (let e : n + 1 + i ≡ n + suc i = omega arith in e) r.3)

  pub each_at : (n : ℕ) (xs : List X) (i : ℕ) (x : X) (y : Y) → slice_get xs i ≡ Some x → Among y (make (n + i) x) → Among y (each make n xs)
  each_at n [] i x y at h = absurd (none-some x at)
  each_at n (z ∷ xs) zero x y at h =
      among_left (make n z) (each make (n + 1) xs) y (subst (λ (w : X). Among y (make n w)) (sym (same_Some z x at)) (subst (λ (k : ℕ). Among y (make k x)) (let e : n + 0 ≡ n = omega arith in e) h))
  each_at n (z ∷ xs) (suc i) x y at h =
      among_right (make n z) (each make (n + 1) xs) y (each_at (n + 1) xs i x y at (subst (λ (k : ℕ). Among y (make k x)) (let e : n + suc i ≡ n + 1 + i = omega arith in e) h))

  -- the same, counted from 0
  pub from_each : (xs : List X) (y : Y) → Among y (each make 0 xs) → (i : ℕ) × (x : X) × (slice_get xs i ≡ Some x) × Among y (make i x)
  from_each xs y at = let r = each_from 0 xs y at in (r.0, r.1, r.2, subst (λ (k : ℕ). Among y (make k r.1)) (zero-add r.0) r.3)

  pub at_each : (xs : List X) (i : ℕ) (x : X) (y : Y) → slice_get xs i ≡ Some x → Among y (make i x) → Among y (each make 0 xs)
  at_each xs i x y at h = each_at 0 xs i x y at (subst (λ (k : ℕ). Among y (make k x)) (sym (zero-add i)) h)

-- ---- counts

abbrev pub one : Name → Name → ℕ
one n x = cond {A = ℕ} (same n x) 1 0

pub one_self : (n : Name) → one n n ≡ 1
one_self n = ap (λ (b : Bool). cond {A = ℕ} b 1 0) (same_self n)

pub times_cons : (n x : Name) (xs : List Name) → times n (x ∷ xs) ≡ one n x + times n xs
times_cons n x xs = sum_by-cons (one n) x xs

pub times_append : (n : Name) (xs ys : List Name) → times n (xs ++ ys) ≡ times n xs + times n ys
times_append n xs ys = sum_by-append (one n) xs ys

pub stands : (n : Name) (xs : List Name) → Among n xs → 1 ≤ times n xs
stands n [] at = absurd at
stands n (x ∷ xs) (inl e) = let here : one n x ≡ 1 = ap (λ (q : Name). one n q) (sym e) ∙ one_self n in omega (arith, here, times_cons n x xs)
stands n (x ∷ xs) (inr at) = omega (arith, stands n xs at, times_cons n x xs)

pub standing : (n : Name) (xs : List Name) → 1 ≤ times n xs → Among n xs
standing n [] h = absurd (omega (arith, h))
standing n (x ∷ xs) h = by (same n x) refl (λ k. standing n xs k)
  where
    by : (b : Bool) → same n x ≡ b → (1 ≤ times n xs → Among n xs) → Among n (x ∷ xs)
    by true e rest = inl (same_is n x e)
    by false e rest = let none : one n x ≡ 0 = ap (λ (b : Bool). cond {A = ℕ} b 1 0) e in inr (rest (omega (arith, h, none, times_cons n x xs)))

-- what one item makes stands among all that is made, and a name that stands once is made of one item
module _ {X : Type 0} (make : ℕ → X → List Name) (n : Name) where
  pub made_counted : (k : ℕ) (xs : List X) (i : ℕ) (x : X) → slice_get xs i ≡ Some x → Among n (make (k + i) x) → 1 ≤ times n (each make k xs)
  made_counted k xs i x at h = stands n (each make k xs) (each_at make k xs i x n at h)

  pub one_owner : (k : ℕ) (xs : List X) → times n (each make k xs) ≤ 1 → (i j : ℕ) (x y : X) → slice_get xs i ≡ Some x → slice_get xs j ≡ Some y → Among n (make (k + i) x) → Among n (make (k + j) y) → i ≡ j
  one_owner k [] few i j x y at there h l = absurd (none-some x at)
  one_owner k (z ∷ zs) few zero zero x y at there h l = refl
  one_owner k (z ∷ zs) few zero (suc j) x y at there h l = absurd (both zs z few j x y at there h l)
    where
      both : (zs : List X) (z : X) → times n (make k z ++ each make (k + 1) zs) ≤ 1 → (j : ℕ) (x y : X) → Some z ≡ Some x → slice_get zs j ≡ Some y → Among n (make (k + 0) x) → Among n (make (k + suc j) y) → ⊥
      both zs z few j x y at there h l =
          let first : Among n (make k z) = subst (λ (w : X). Among n (make k w)) (sym (same_Some z x at)) (subst (λ (m : ℕ). Among n (make m x)) (let e : k + 0 ≡ k = omega arith in e) h) in
          let later : 1 ≤ times n (each make (k + 1) zs) = made_counted (k + 1) zs j y there (subst (λ (m : ℕ). Among n (make m y)) (let e : k + suc j ≡ k + 1 + j = omega arith in e) l) in
          let here : 1 ≤ times n (make k z) = stands n (make k z) first in
          let all : times n (make k z ++ each make (k + 1) zs) ≡ times n (make k z) + times n (each make (k + 1) zs) = times_append n (make k z) (each make (k + 1) zs) in
          omega (arith, later, here, all, few)
  one_owner k (z ∷ zs) few (suc i) zero x y at there h l =
      let first : Among n (make k z) = subst (λ (w : X). Among n (make k w)) (sym (same_Some z y there)) (subst (λ (m : ℕ). Among n (make m y)) (let e : k + 0 ≡ k = omega arith in e) l) in
      let later : 1 ≤ times n (each make (k + 1) zs) = made_counted (k + 1) zs i x at (subst (λ (m : ℕ). Among n (make m x)) (let e : k + suc i ≡ k + 1 + i = omega arith in e) h) in
      let here : 1 ≤ times n (make k z) = stands n (make k z) first in
      let all : times n (make k z ++ each make (k + 1) zs) ≡ times n (make k z) + times n (each make (k + 1) zs) = times_append n (make k z) (each make (k + 1) zs) in
      absurd (omega (arith, later, here, all, few))
  one_owner k (z ∷ zs) few (suc i) (suc j) x y at there h l =
      let all : times n (make k z ++ each make (k + 1) zs) ≡ times n (make k z) + times n (each make (k + 1) zs) = times_append n (make k z) (each make (k + 1) zs) in
      let fewer : times n (each make (k + 1) zs) ≤ 1 = omega (arith, all, few) in
      let shift_i : k + suc i ≡ k + 1 + i = omega arith in
      let shift_j : k + suc j ≡ k + 1 + j = omega arith in
      ap (λ (m : ℕ). suc m) (one_owner (k + 1) zs fewer i j x y at there (subst (λ (m : ℕ). Among n (make m x)) shift_i h) (subst (λ (m : ℕ). Among n (make m y)) shift_j l))
