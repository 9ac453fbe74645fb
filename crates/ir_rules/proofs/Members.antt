-- Membership, and the tests of lists that tell it.
use Rattle.std.proofs.Common.{◌≡◌, ℕ, zero, suc, ◌+◌, ◌⊎◌, inl, inr, Bool, true, List, [], ◌∷◌, ◌++◌, map, drop, Some, slice_get, refl, sym, ap, ◌∙◌, arith}
use Rattle.std.specs.List.{list_all, list_any}
use Rattle.std.specs.Cmp.Lexicographic.{bytes_decides}
use Rattle.std.proofs.lemmas.Bool.{and_from, and_parts, or_cases, or_left, or_right}
use Rattle.std.proofs.lemmas.Option.{none-some, same_Some}
use Rattle.ir_rules.specs.Lists.{Among, is_among}
use Rattle.ir_tree.specs.Names.{same}

pub same_is : (n x : List ℕ) → same n x ≡ true → n ≡ x
same_is n x h = (bytes_decides n x).0 h

pub is_same : (n x : List ℕ) → n ≡ x → same n x ≡ true
is_same n x h = (bytes_decides n x).1 h

-- ---- tests of all members and of some

pub each_of : {X : Type 0} (test : X → Bool) (xs : List X) → list_all test xs ≡ true → (x : X) → Among x xs → test x ≡ true
each_of test [] h x at = absurd at
each_of {X} test (y ∷ ys) h x (inl e) = ap (λ (z : X). test z) e ∙ (and_parts (test y) (list_all test ys) h).0
each_of test (y ∷ ys) h x (inr at) = each_of test ys (and_parts (test y) (list_all test ys) h).1 x at

pub all_of : {X : Type 0} (test : X → Bool) (xs : List X) → ((x : X) → Among x xs → test x ≡ true) → list_all test xs ≡ true
all_of test [] h = refl
all_of test (y ∷ ys) h = and_from (test y) (list_all test ys) (h y (inl refl)) (all_of test ys (λ x at. h x (inr at)))

pub some_of : {X : Type 0} (test : X → Bool) (xs : List X) → list_any test xs ≡ true → (x : X) × Among x xs × (test x ≡ true)
some_of test [] h = absurd (cc)
some_of {X} test (y ∷ ys) h = by (or_cases (test y) (list_any test ys) h) (λ k. some_of test ys k)
  where
    by : (test y ≡ true) ⊎ (list_any test ys ≡ true) → (list_any test ys ≡ true → (x : X) × Among x ys × (test x ≡ true)) → (x : X) × Among x (y ∷ ys) × (test x ≡ true)
    by (inl k) rest = (y, inl refl, k)
    by (inr k) rest = let found = rest k in (found.0, inr found.1, found.2)

pub any_of : {X : Type 0} (test : X → Bool) (xs : List X) (x : X) → Among x xs → test x ≡ true → list_any test xs ≡ true
any_of test [] x at h = absurd at
any_of {X} test (y ∷ ys) x (inl e) h = or_left (test y) (list_any test ys) (ap (λ (z : X). test z) (sym e) ∙ h)
any_of test (y ∷ ys) x (inr at) h = or_right (test y) (list_any test ys) (any_of test ys x at h)

pub among_is : (n : List ℕ) (xs : List (List ℕ)) → is_among n xs ≡ true → Among n xs
among_is n [] h = absurd (cc)
among_is n (x ∷ xs) h = by (or_cases (same n x) (is_among n xs) h) (λ k. among_is n xs k)
  where
    by : (same n x ≡ true) ⊎ (is_among n xs ≡ true) → (is_among n xs ≡ true → Among n xs) → Among n (x ∷ xs)
    by (inl k) rest = inl (same_is n x k)
    by (inr k) rest = inr (rest k)

pub is_member : (n : List ℕ) (xs : List (List ℕ)) → Among n xs → is_among n xs ≡ true
is_member n xs at = any_of (same n) xs n at (is_same n n refl)

-- ---- places

pub at_among : {X : Type 0} (xs : List X) (i : ℕ) (x : X) → slice_get xs i ≡ Some x → Among x xs
at_among [] i x at = absurd (none-some x at)
at_among (y ∷ ys) zero x at = inl (sym (same_Some y x at))
at_among (y ∷ ys) (suc i) x at = inr (at_among ys i x at)

pub among_at : {X : Type 0} (xs : List X) (x : X) → Among x xs → (i : ℕ) × (slice_get xs i ≡ Some x)
among_at [] x at = absurd at
among_at (y ∷ ys) x (inl e) = (0, ap Some (sym e))
among_at (y ∷ ys) x (inr at) = let found = among_at ys x at in (suc found.0, found.1)

pub behind_among : {X : Type 0} (xs : List X) (k i : ℕ) (x : X) → slice_get xs (k + i) ≡ Some x → Among x (drop k xs)
behind_among xs zero i x at = at_among xs i x (ap (λ (j : ℕ). slice_get xs j) (let e : i ≡ 0 + i = omega arith in e) ∙ at)
behind_among [] (suc k) i x at = absurd (none-some x at)
behind_among (y ∷ ys) (suc k) i x at = behind_among ys k i x (ap (λ (j : ℕ). slice_get (y ∷ ys) j) (let e : suc (k + i) ≡ suc k + i = omega arith in e) ∙ at)

pub among_behind : {X : Type 0} (xs : List X) (k : ℕ) (x : X) → Among x (drop k xs) → (i : ℕ) × (slice_get xs (k + i) ≡ Some x)
among_behind xs zero x at = let found = among_at xs x at in (found.0, ap (λ (j : ℕ). slice_get xs j) (let e : 0 + found.0 ≡ found.0 = omega arith in e) ∙ found.1)
among_behind [] (suc k) x at = absurd at
among_behind (y ∷ ys) (suc k) x at = let found = among_behind ys k x at in (found.0, ap (λ (j : ℕ). slice_get (y ∷ ys) j) (let e : suc k + found.0 ≡ suc (k + found.0) = omega arith in e) ∙ found.1)

-- ---- lists made of others

pub among_map : {X Y : Type 0} (g : X → Y) (xs : List X) (x : X) → Among x xs → Among (g x) (map g xs)
among_map g [] x at = absurd at
among_map g (y ∷ ys) x (inl e) = inl (ap g e)
among_map g (y ∷ ys) x (inr at) = inr (among_map g ys x at)

pub map_among : {X Y : Type 0} (g : X → Y) (xs : List X) (y : Y) → Among y (map g xs) → (x : X) × Among x xs × (y ≡ g x)
map_among g [] y at = absurd at
map_among g (x ∷ xs) y (inl e) = (x, inl refl, e)
map_among g (x ∷ xs) y (inr at) = let found = map_among g xs y at in (found.0, inr found.1, found.2)

pub among_left : {X : Type 0} (xs ys : List X) (x : X) → Among x xs → Among x (xs ++ ys)
among_left [] ys x at = absurd at
among_left (z ∷ zs) ys x (inl e) = inl e
among_left (z ∷ zs) ys x (inr at) = inr (among_left zs ys x at)

pub among_right : {X : Type 0} (xs ys : List X) (x : X) → Among x ys → Among x (xs ++ ys)
among_right [] ys x at = at
among_right (z ∷ zs) ys x at = inr (among_right zs ys x at)
