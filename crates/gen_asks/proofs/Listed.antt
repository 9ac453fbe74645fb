-- Membership, lists that are made item by item, and what some items give.
use Rattle.std.proofs.Common.{◌≡◌, ℕ, zero, suc, ◌+◌, ◌<◌, ◌⊎◌, inl, inr, Bool, true, false, not, cond, List, [], ◌∷◌, ◌++◌, length, map, filter, Option, Some, None, slice_get, slice_index_or, refl, sym, ap, subst, ◌∙◌, arith, zero-add}
use Rattle.std.specs.List.{cons_option, filter_map, flat_map, position, position_or_len}
use Rattle.std.proofs.lemmas.Bool.{lt-ltb}
use Rattle.std.proofs.lemmas.Option.{none-some, same_Some}
use Rattle.ir_rules.specs.Lists.{Among}
use Rattle.spec_lists.specs.Each.{each, first_of}

-- ---- membership

pub at_among : {X : Type 0} (xs : List X) (i : ℕ) (x : X) → slice_get xs i ≡ Some x → Among x xs
at_among [] i x at = absurd (none-some x at)
at_among (y ∷ ys) zero x at = inl (sym (same_Some y x at))
at_among (y ∷ ys) (suc i) x at = inr (at_among ys i x at)

pub among_at : {X : Type 0} (xs : List X) (x : X) → Among x xs → (i : ℕ) × (slice_get xs i ≡ Some x)
among_at [] x at = absurd at
among_at (y ∷ ys) x (inl e) = (0, ap Some (sym e))
among_at (y ∷ ys) x (inr at) = let found = among_at ys x at in (suc found.0, found.1)

pub among_left : {X : Type 0} (xs ys : List X) (x : X) → Among x xs → Among x (xs ++ ys)
among_left [] ys x at = absurd at
among_left (z ∷ zs) ys x (inl e) = inl e
among_left (z ∷ zs) ys x (inr at) = inr (among_left zs ys x at)

pub among_right : {X : Type 0} (xs ys : List X) (x : X) → Among x ys → Among x (xs ++ ys)
among_right [] ys x at = at
among_right (z ∷ zs) ys x at = inr (among_right zs ys x at)

pub among_either : {X : Type 0} (xs ys : List X) (x : X) → Among x (xs ++ ys) → Among x xs ⊎ Among x ys
among_either [] ys x at = inr at
among_either (z ∷ zs) ys x (inl e) = inl (inl e)
among_either (z ∷ zs) ys x (inr at) = further (among_either zs ys x at)
  where
    further : Among x zs ⊎ Among x ys → Among x (z ∷ zs) ⊎ Among x ys
    further (inl h) = inl (inr h)
    further (inr h) = inr h

pub map_among : {X Y : Type 0} (g : X → Y) (xs : List X) (y : Y) → Among y (map g xs) → (x : X) × Among x xs × (y ≡ g x)
map_among g [] y at = absurd at
map_among g (x ∷ xs) y (inl e) = (x, inl refl, e)
map_among g (x ∷ xs) y (inr at) = let found = map_among g xs y at in (found.0, inr found.1, found.2)

pub among_map : {X Y : Type 0} (g : X → Y) (xs : List X) (x : X) → Among x xs → Among (g x) (map g xs)
among_map g [] x at = absurd at
among_map g (y ∷ ys) x (inl e) = inl (ap g e)
among_map g (y ∷ ys) x (inr at) = inr (among_map g ys x at)

pub flat_among : {X Y : Type 0} (g : X → List Y) (xs : List X) (y : Y) → Among y (flat_map g xs) → (x : X) × Among x xs × Among y (g x)
flat_among g [] y at = absurd at
flat_among {X} {Y} g (x ∷ xs) y at = by (among_either (g x) (flat_map g xs) y at) (λ h. flat_among g xs y h)
  where
    by : Among y (g x) ⊎ Among y (flat_map g xs) → (Among y (flat_map g xs) → (z : X) × Among z xs × Among y (g z)) → (z : X) × Among z (x ∷ xs) × Among y (g z)
    by (inl h) rest = (x, inl refl, h)
    by (inr h) rest = (let r = rest h in (r.0, inr r.1, r.2))

pub among_flat : {X Y : Type 0} (g : X → List Y) (xs : List X) (x : X) (y : Y) → Among x xs → Among y (g x) → Among y (flat_map g xs)
among_flat g [] x y at h = absurd at
among_flat {X} {Y} g (z ∷ zs) x y (inl e) h = among_left (g z) (flat_map g zs) y (subst (λ (w : X). Among y (g w)) e h)
among_flat g (z ∷ zs) x y (inr at) h = among_right (g z) (flat_map g zs) y (among_flat g zs x y at h)

pub filter_among : {X : Type 0} (test : X → Bool) (xs : List X) (x : X) → Among x (filter test xs) → Among x xs × (test x ≡ true)
filter_among test [] x at = absurd at
filter_among {X} test (y ∷ ys) x at = by (test y) refl at (λ h. filter_among test ys x h)
  where
    by : (b : Bool) → test y ≡ b → Among x (cond b (y ∷ filter test ys) (filter test ys)) → (Among x (filter test ys) → Among x ys × (test x ≡ true)) → Among x (y ∷ ys) × (test x ≡ true)
    by true t (inl e) rest = (inl e, ap (λ (z : X). test z) e ∙ t)
    by true t (inr h) rest = (let r = rest h in (inr r.0, r.1))
    by false t h rest = (let r = rest h in (inr r.0, r.1))

pub among_made : {X Y : Type 0} (g : X → Option Y) (xs : List X) (y : Y) → Among y (filter_map g xs) → (x : X) × Among x xs × (g x ≡ Some y)
among_made g [] y at = absurd at
among_made {X} {Y} g (x ∷ xs) y at = by (g x) refl at (λ h. among_made g xs y h)
  where
    later : (z : X) × Among z xs × (g z ≡ Some y) → (z : X) × Among z (x ∷ xs) × (g z ≡ Some y)
    later (z, at, e) = (z, inr at, e)

    by : (o : Option Y) → g x ≡ o → Among y (cons_option o (filter_map g xs)) → (Among y (filter_map g xs) → (z : X) × Among z xs × (g z ≡ Some y)) → (z : X) × Among z (x ∷ xs) × (g z ≡ Some y)
    by None e h rest = later (rest h)
    by (Some w) e (inl q) rest = (x, inl refl, e ∙ ap Some (sym q))
    by (Some w) e (inr h) rest = later (rest h)

pub made_among : {X Y : Type 0} (g : X → Option Y) (xs : List X) (x : X) (y : Y) → Among x xs → g x ≡ Some y → Among y (filter_map g xs)
made_among g [] x y at e = absurd at
made_among {X} {Y} g (z ∷ zs) x y (inl q) e = subst (λ (o : Option Y). Among y (cons_option o (filter_map g zs))) (sym (ap g (sym q) ∙ e)) (inl refl)
made_among {X} {Y} g (z ∷ zs) x y (inr at) e = by (g z) (made_among g zs x y at e)
  where
    by : (o : Option Y) → Among y (filter_map g zs) → Among y (cons_option o (filter_map g zs))
    by None h = h
    by (Some w) h = inr h

pub first_among : {X : Type 0} (xs : List X) (x : X) → first_of xs ≡ Some x → Among x xs
first_among [] x e = absurd (none-some x e)
first_among (y ∷ ys) x e = inl (sym (same_Some y x e))

pub first_some : {X : Type 0} (xs : List X) (x : X) → Among x xs → (y : X) × (first_of xs ≡ Some y)
first_some [] x at = absurd at
first_some (y ∷ ys) x at = (y, refl)

-- ---- what is made item by item

module _ {X Y : Type 0} (make : ℕ → X → List Y) where
  each_from : (n : ℕ) (xs : List X) (y : Y) → Among y (each make n xs) → (i : ℕ) × (x : X) × (slice_get xs i ≡ Some x) × Among y (make (n + i) x)
  each_from n [] y at = absurd at
  each_from n (x ∷ xs) y at = by (among_either (make n x) (each make (n + 1) xs) y at) (λ h. each_from (n + 1) xs y h)
    where
      by : Among y (make n x) ⊎ Among y (each make (n + 1) xs) → (Among y (each make (n + 1) xs) → (i : ℕ) × (z : X) × (slice_get xs i ≡ Some z) × Among y (make (n + 1 + i) z)) → (i : ℕ) × (z : X) × (slice_get (x ∷ xs) i ≡ Some z) × Among y (make (n + i) z)
      by (inl h) more = (0, x, refl, subst (λ (k : ℕ). Among y (make k x)) (let e : n ≡ n + 0 = omega arith in e) h)
      by (inr h) more =
          let r = more h in
          let i : ℕ = r.0 in
          (suc i, r.1, r.2, subst (λ (k : ℕ). Among y (make k r.1)) (let e : n + 1 + i ≡ n + suc i = omega arith in e) r.3)

  each_at : (n : ℕ) (xs : List X) (i : ℕ) (x : X) (y : Y) → slice_get xs i ≡ Some x → Among y (make (n + i) x) → Among y (each make n xs)
  each_at n [] i x y at h = absurd (none-some x at)
  each_at n (z ∷ xs) zero x y at h =
      among_left (make n z) (each make (n + 1) xs) y (subst (λ (w : X). Among y (make n w)) (sym (same_Some z x at)) (subst (λ (k : ℕ). Among y (make k x)) (let e : n + 0 ≡ n = omega arith in e) h))
  each_at n (z ∷ xs) (suc i) x y at h =
      among_right (make n z) (each make (n + 1) xs) y (each_at (n + 1) xs i x y at (subst (λ (k : ℕ). Among y (make k x)) (let e : n + suc i ≡ n + 1 + i = omega arith in e) h))

  pub from_each : (xs : List X) (y : Y) → Among y (each make 0 xs) → (i : ℕ) × (x : X) × (slice_get xs i ≡ Some x) × Among y (make i x)
  from_each xs y at = let r = each_from 0 xs y at in (r.0, r.1, r.2, subst (λ (k : ℕ). Among y (make k r.1)) (zero-add r.0) r.3)

  pub at_each : (xs : List X) (i : ℕ) (x : X) (y : Y) → slice_get xs i ≡ Some x → Among y (make i x) → Among y (each make 0 xs)
  at_each xs i x y at h = each_at 0 xs i x y at (subst (λ (k : ℕ). Among y (make k x)) (sym (zero-add i)) h)

-- what holds of each item and of what stands past the last one
pub index_holds : {X : Type 0} (P : X → Type 0) (d : X) (xs : List X) → P d → ((x : X) → Among x xs → P x) → (i : ℕ) → P (slice_index_or xs i d)
index_holds P d [] past each i = past
index_holds P d (x ∷ xs) past each zero = each x (inl refl)
index_holds P d (x ∷ xs) past each (suc i) = index_holds P d xs past (λ y at. each y (inr at)) i

-- ---- the place of an item that passes

place_within : {X : Type 0} (test : X → Bool) (xs : List X) (x : X) → Among x xs → test x ≡ true → position_or_len test xs < length xs
place_within test [] x at h = absurd at
place_within {X} test (y ∷ ys) x (inl e) h =
    let here : position_or_len test (y ∷ ys) ≡ 0 = ap (λ (b : Bool). cond {A = ℕ} (not b) (1 + position_or_len test ys) 0) (ap (λ (z : X). test z) (sym e) ∙ h) in
    omega (arith, here)
place_within test (y ∷ ys) x (inr at) h = by (test y) (place_within test ys x at h)
  where
    by : (b : Bool) → position_or_len test ys < length ys → cond {A = ℕ} (not b) (1 + position_or_len test ys) 0 < suc (length ys)
    by true rest = omega arith
    by false rest = omega (arith, rest)

pub has_place : {X : Type 0} (test : X → Bool) (xs : List X) (x : X) → Among x xs → test x ≡ true → (i : ℕ) × (position test xs ≡ Some i)
has_place test xs x at h = (position_or_len test xs, ap (λ (b : Bool). cond b (Some (position_or_len test xs)) None) (lt-ltb (position_or_len test xs) (length xs) (place_within test xs x at h)))
