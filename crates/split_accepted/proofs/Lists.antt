-- Lists with one item replaced, and lists that are made item by item.
use Rattle.std.proofs.Common.{◌≡◌, ℕ, zero, suc, ◌+◌, ◌≤◌, ◌<◌, ◌⊎◌, inl, inr, Bool, ◌||◌, List, [], ◌∷◌, ◌++◌, map, sum_by, Some, slice_get, slice_set, refl, sym, ap, subst, ◌∙◌, arith}
use Rattle.std.specs.Prelude.{IsPermutation, take, drop}
use Rattle.std.specs.List.{flat_map, list_any}
use Rattle.std.proofs.lemmas.Bool.{cases_eq}
use Rattle.std.proofs.lemmas.List.{append_assoc, take-append-drop}
use Rattle.std.proofs.lemmas.List.Sorted.{IsPermutation-append_comm, IsPermutation-append_left, IsPermutation-append_right, IsPermutation-cons, IsPermutation-refl, IsPermutation-trans}
use Rattle.std.proofs.lemmas.List.Sums.{sum_by-append, sum_by-cons}
use Rattle.std.proofs.lemmas.Option.{none-some, same_Some}
use Rattle.ir_rules.specs.Lists.{Among}
use Rattle.spec_lists.specs.Each.{each}

-- ---- membership

pub get_among : {X : Type 0} (xs : List X) (i : ℕ) (x : X) → slice_get xs i ≡ Some x → Among x xs
get_among [] i x at = absurd (none-some x at)
get_among (y ∷ ys) zero x at = inl (sym (same_Some y x at))
get_among (y ∷ ys) (suc i) x at = inr (get_among ys i x at)

pub among_left : {X : Type 0} (xs ys : List X) (x : X) → Among x xs → Among x (xs ++ ys)
among_left [] ys x at = absurd at
among_left (z ∷ zs) ys x (inl e) = inl e
among_left (z ∷ zs) ys x (inr at) = inr (among_left zs ys x at)

pub among_right : {X : Type 0} (xs ys : List X) (x : X) → Among x ys → Among x (xs ++ ys)
among_right [] ys x at = at
among_right (z ∷ zs) ys x at = inr (among_right zs ys x at)

pub among_either : {X : Type 0} (xs ys : List X) (x : X) → Among x (xs ++ ys) → Among x xs ⊎ Among x ys
among_either [] ys x at = inr at
among_either (z ∷ zs) ys x (inl e) = inl (inl e)
among_either (z ∷ zs) ys x (inr at) = further (among_either zs ys x at)
  where
    further : Among x zs ⊎ Among x ys → Among x (z ∷ zs) ⊎ Among x ys
    further (inl h) = inl (inr h)
    further (inr h) = inr h

pub map_among : {X Y : Type 0} (g : X → Y) (xs : List X) (y : Y) → Among y (map g xs) → (x : X) × Among x xs × (y ≡ g x)
map_among g [] y at = absurd at
map_among g (x ∷ xs) y (inl e) = (x, inl refl, e)
map_among g (x ∷ xs) y (inr at) = let found = map_among g xs y at in (found.0, inr found.1, found.2)

pub flat_among : {X Y : Type 0} (g : X → List Y) (xs : List X) (y : Y) → Among y (flat_map g xs) → (x : X) × Among x xs × Among y (g x)
flat_among g [] y at = absurd at
flat_among {X} {Y} g (x ∷ xs) y at = by (among_either (g x) (flat_map g xs) y at) (λ h. flat_among g xs y h)
  where
    by : Among y (g x) ⊎ Among y (flat_map g xs) → (Among y (flat_map g xs) → (z : X) × Among z xs × Among y (g z)) → (z : X) × Among z (x ∷ xs) × Among y (g z)
    by (inl h) rest = (x, inl refl, h)
    by (inr h) rest = (let r = rest h in (r.0, inr r.1, r.2))

pub among_flat : {X Y : Type 0} (g : X → List Y) (xs : List X) (x : X) (y : Y) → Among x xs → Among y (g x) → Among y (flat_map g xs)
among_flat g [] x y at h = absurd at
among_flat {X} {Y} g (z ∷ zs) x y (inl e) h = among_left (g z) (flat_map g zs) y (subst (λ (w : X). Among y (g w)) e h)
among_flat g (z ∷ zs) x y (inr at) h = among_right (g z) (flat_map g zs) y (among_flat g zs x y at h)

-- an item counts no more than the sum
pub part_of_sum : {X : Type 0} (g : X → ℕ) (xs : List X) (x : X) → Among x xs → g x ≤ sum_by g xs
part_of_sum g [] x at = absurd at
part_of_sum g (y ∷ ys) x (inl e) = (let same : g x ≡ g y = ap g e in omega (arith, same, sum_by-cons g y ys))
part_of_sum g (y ∷ ys) x (inr at) = omega (arith, sum_by-cons g y ys, part_of_sum g ys x at)

-- ---- one item replaced

module _ {X : Type 0} where
  pub set_map : {Y : Type 0} (g : X → Y) (xs : List X) (j : ℕ) (x y : X) → slice_get xs j ≡ Some x → g y ≡ g x → map g (slice_set xs j y) ≡ map g xs
  set_map g [] j x y at e = refl
  set_map {Y} g (z ∷ zs) zero x y at e = ap (λ (w : Y). w ∷ map g zs) (e ∙ ap g (sym (same_Some z x at)))
  set_map {Y} g (z ∷ zs) (suc j) x y at e = ap (λ (ws : List Y). g z ∷ ws) (set_map g zs j x y at e)

  pub set_any : (test : X → Bool) (xs : List X) (j : ℕ) (x y : X) → slice_get xs j ≡ Some x → test y ≡ test x → list_any test (slice_set xs j y) ≡ list_any test xs
  set_any test xs j x y at e = any_map (slice_set xs j y) ∙ ap (list_any (λ (b : Bool). b)) (set_map test xs j x y at e) ∙ sym (any_map xs)
    where
      any_map : (zs : List X) → list_any test zs ≡ list_any (λ (b : Bool). b) (map test zs)
      any_map [] = refl
      any_map (z ∷ zs) = ap (λ (b : Bool). test z || b) (any_map zs)

  pub set_sum : (g : X → ℕ) (xs : List X) (j : ℕ) (x y : X) → slice_get xs j ≡ Some x → sum_by g (slice_set xs j y) + g x ≡ sum_by g xs + g y
  set_sum g [] j x y at = absurd (none-some x at)
  set_sum g (z ∷ zs) zero x y at = (let e : g z ≡ g x = ap g (same_Some z x at) in omega (arith, e, sum_by-cons g z zs, sum_by-cons g y zs))
  set_sum g (z ∷ zs) (suc j) x y at = omega (arith, set_sum g zs j x y at, sum_by-cons g z zs, sum_by-cons g z (slice_set zs j y))

  pub set_among : (xs : List X) (j : ℕ) (y z : X) → Among z (slice_set xs j y) → (z ≡ y) ⊎ Among z xs
  set_among [] j y z at = absurd at
  set_among (x ∷ xs) zero y z (inl e) = inl e
  set_among (x ∷ xs) zero y z (inr at) = inr (inr at)
  set_among (x ∷ xs) (suc j) y z (inl e) = inr (inl e)
  set_among (x ∷ xs) (suc j) y z (inr at) = by (set_among xs j y z at)
    where
      by : (z ≡ y) ⊎ Among z xs → (z ≡ y) ⊎ Among z (x ∷ xs)
      by (inl e) = inl e
      by (inr h) = inr (inr h)

  pub set_there : (xs : List X) (j : ℕ) (x y : X) → slice_get xs j ≡ Some x → slice_get (slice_set xs j y) j ≡ Some y
  set_there [] j x y at = absurd (none-some x at)
  set_there (z ∷ zs) zero x y at = refl
  set_there (z ∷ zs) (suc j) x y at = set_there zs j x y at

-- ---- one item makes something

module _ {X Y : Type 0} (make : ℕ → X → List Y) (g : Y → ℕ) (most a : ℕ) (none : (n : ℕ) (x : X) → (n ≡ a → ⊥) → make n x ≡ []) (few : (x : X) → sum_by g (make a x) ≤ most) where
  none_behind : (n : ℕ) (xs : List X) → a < n → sum_by g (each make n xs) ≡ 0
  none_behind n [] h = refl
  none_behind n (x ∷ xs) h =
      let here : sum_by g (make n x) ≡ 0 = ap (sum_by g) (none n x (λ e. absurd (omega (arith, h, e)))) in
      omega (arith, here, none_behind (n + 1) xs (omega (arith, h)), sum_by-append g (make n x) (each make (n + 1) xs))

  pub few_made : (n : ℕ) (xs : List X) → sum_by g (each make n xs) ≤ most
  few_made n [] = omega arith
  few_made n (x ∷ xs) = by (cases_eq n a) (few_made (n + 1) xs)
    where
      by : (n ≡ a) ⊎ (n ≡ a → ⊥) → sum_by g (each make (n + 1) xs) ≤ most → sum_by g (make n x ++ each make (n + 1) xs) ≤ most
      by (inl e) rest =
          let here : sum_by g (make n x) ≤ most = subst (λ (k : ℕ). sum_by g (make k x) ≤ most) (sym e) (few x) in
          omega (arith, here, none_behind (n + 1) xs (omega (arith, e)), sum_by-append g (make n x) (each make (n + 1) xs))
      by (inr off) rest =
          let here : sum_by g (make n x) ≡ 0 = ap (sum_by g) (none n x off) in
          omega (arith, here, rest, sum_by-append g (make n x) (each make (n + 1) xs))

-- ---- two lists in one

pub moved_between : {X : Type 0} (ms ts fs os : List X) → IsPermutation ts (fs ++ os) → IsPermutation (ms ++ ts) (fs ++ (ms ++ os))
moved_between {X} ms ts fs os moved =
    IsPermutation-trans (ms ++ ts) (ms ++ (fs ++ os)) (fs ++ (ms ++ os)) (IsPermutation-append_right ms ts (fs ++ os) moved) (
    subst (λ (xs : List X). IsPermutation xs (fs ++ (ms ++ os))) (append_assoc ms fs os) (
    subst (λ (xs : List X). IsPermutation ((ms ++ fs) ++ os) xs) (append_assoc fs ms os) (
    IsPermutation-append_left os (ms ++ fs) (fs ++ ms) (IsPermutation-append_comm ms fs))))

module _ {X Y : Type 0} (first : ℕ → Y → X) (more : ℕ → Y → List X) where
  pub parted : (n : ℕ) (ys : List Y) → IsPermutation (each (λ j y. first j y ∷ more j y) n ys) (each (λ j y. first j y ∷ []) n ys ++ each more n ys)
  parted n [] = IsPermutation-refl []
  parted n (y ∷ ys) = IsPermutation-cons (first n y) _ _ (moved_between (more n y) (each (λ j z. first j z ∷ more j z) (n + 1) ys) (each (λ j z. first j z ∷ []) (n + 1) ys) (each more (n + 1) ys) (parted (n + 1) ys))

-- what stands behind a list stands before any place of it
pub put_before : {X : Type 0} (place : ℕ) (xs zs : List X) → IsPermutation (xs ++ zs) (take place xs ++ (zs ++ drop place xs))
put_before {X} place xs zs =
    subst (λ (ys : List X). IsPermutation (ys ++ zs) (take place xs ++ (zs ++ drop place xs))) (take-append-drop place xs) (
    subst (λ (ys : List X). IsPermutation ys (take place xs ++ (zs ++ drop place xs))) (sym (append_assoc (take place xs) (drop place xs) zs)) (
    IsPermutation-append_right (take place xs) (drop place xs ++ zs) (zs ++ drop place xs) (IsPermutation-append_comm (drop place xs) zs)))
