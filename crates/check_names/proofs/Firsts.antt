-- The first of what is made of a list's items.
use Rattle.std.proofs.Common.{◌≡◌, ℕ, ◌+◌, ◌<◌, ◌≤◌, List, [], ◌∷◌, ◌++◌, map, length, drop, get_or, None, Some, slice_get, refl, ap, subst, ◌∙◌, arith}
use Rattle.std.proofs.lemmas.Option.{slice_get_cases}
use Rattle.std.proofs.Math.Seq.{drop-length}
use Rattle.spec_lists.specs.Each.{each, first_of}
use Rattle.spec_lists.proofs.Each.{each_dropped}

pub front_found : {Y : Type 0} (ys zs : List Y) (y : Y) → first_of ys ≡ Some y → first_of (ys ++ zs) ≡ Some y
front_found [] zs y found = cc
front_found (x ∷ ys) zs y found = found

pub front_passed : {Y : Type 0} (ys zs : List Y) → first_of ys ≡ None → first_of (ys ++ zs) ≡ first_of zs
front_passed [] zs none = refl
front_passed (x ∷ ys) zs none = cc

-- the places of a rule, with its number
pub rule_found : {Y Z : Type 0} (g : Y → Z) (ys : List Y) (zs : List Z) (y : Y) → first_of ys ≡ Some y → first_of (map g ys ++ zs) ≡ Some (g y)
rule_found g [] zs y found = cc
rule_found g (x ∷ ys) zs y found = let same : x ≡ y = cc in ap (λ z. Some (g z)) same

pub rule_passed : {Y Z : Type 0} (g : Y → Z) (ys : List Y) (zs : List Z) → first_of ys ≡ None → first_of (map g ys ++ zs) ≡ first_of zs
rule_passed g [] zs none = refl
rule_passed g (x ∷ ys) zs none = cc

-- what is made of the items from item i on
module _ {X Y : Type 0} (make : ℕ → X → List Y) (xs : List X) (i : ℕ) (d : X) (within : i < length xs) where
  pub item_found : (y : Y) → first_of (make i (get_or xs i d)) ≡ Some y → first_of (each make i (drop i xs)) ≡ Some y
  item_found y found = ap (λ (ys : List Y). first_of ys) (each_dropped make xs i d within) ∙ front_found (make i (get_or xs i d)) (each make (i + 1) (drop (i + 1) xs)) y found

  pub item_passed : first_of (make i (get_or xs i d)) ≡ None → first_of (each make i (drop i xs)) ≡ first_of (each make (i + 1) (drop (i + 1) xs))
  item_passed none = ap (λ (ys : List Y). first_of ys) (each_dropped make xs i d within) ∙ front_passed (make i (get_or xs i d)) (each make (i + 1) (drop (i + 1) xs)) none

pub each_empty : {X Y : Type 0} (make : ℕ → X → List Y) (n : ℕ) (xs : List X) → ((k : ℕ) (x : X) → make k x ≡ []) → each make n xs ≡ []
each_empty make n [] none = refl
each_empty make n (x ∷ xs) none = (λ j. none n x j ++ each_empty make (n + 1) xs none j)

pub each_same : {X Y : Type 0} (left right : ℕ → X → List Y) (n : ℕ) (xs : List X) → ((k : ℕ) (x : X) → left k x ≡ right k x) → each left n xs ≡ each right n xs
each_same left right n [] same = refl
each_same left right n (x ∷ xs) same = (λ j. same n x j ++ each_same left right (n + 1) xs same j)

-- the list that a slice shows
pub at_item : {X : Type 0} (shown xs : List X) (i : ℕ) (x : X) → shown ≡ xs → i < length shown → x ≡ get_or shown i x → (i < length xs) × (x ≡ get_or xs i x)
at_item {X} shown xs i x same within is = (subst (λ (ys : List X). i < length ys) same within, is ∙ ap (λ (ys : List X). get_or ys i x) same)

pub at_end : {X : Type 0} (shown xs : List X) (i : ℕ) → shown ≡ xs → length shown ≤ i → i ≤ length shown → i ≡ length xs
at_end shown xs i same past within = let long : length shown ≡ length xs = ap length same in omega (arith, past, within, long)

pub each_done : {X Y : Type 0} (make : ℕ → X → List Y) (xs : List X) (i : ℕ) → i ≡ length xs → first_of (each make i (drop i xs)) ≡ None
each_done {X} make xs i done = (λ j. first_of (each make i (drop (done j) xs))) ∙ ap (λ (ys : List X). first_of (each make i ys)) (drop-length xs)

pub placed : {X : Type 0} (xs : List X) (i : ℕ) (x : X) → slice_get xs i ≡ Some x → (i < length xs) × (x ≡ get_or xs i x)
placed xs i x at = grind (arith, slice_get_cases xs i)

pub none_first : {Y : Type 0} (ys : List Y) → first_of ys ≡ None → ys ≡ []
none_first [] none = refl
none_first (y ∷ ys) none = cc
