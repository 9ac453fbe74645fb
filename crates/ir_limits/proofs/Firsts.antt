-- The first of two lists put together.
use Rattle.std.proofs.Common.{◌≡◌, ℕ, ◌+◌, ◌<◌, List, [], ◌∷◌, ◌++◌, map, flat_map, length, drop, get_or, None, Some, refl, sym, ap, ◌∙◌, add-one, drop-cons}
use Rattle.spec_lists.specs.Each.{first_of}

pub nil_left : {Y : Type 0} (ys zs : List Y) → ys ++ zs ≡ [] → ys ≡ []
nil_left [] zs h = refl
nil_left (y ∷ ys) zs h = cc

pub nil_right : {Y : Type 0} (ys zs : List Y) → ys ++ zs ≡ [] → zs ≡ []
nil_right [] zs h = h
nil_right (y ∷ ys) zs h = cc

pub first_none : {Y : Type 0} (ys : List Y) → first_of ys ≡ None → ys ≡ []
first_none [] none = refl
first_none (y ∷ ys) none = cc

pub found_plain : {Y : Type 0} (ys zs : List Y) (y : Y) → first_of ys ≡ Some y → first_of (ys ++ zs) ≡ Some y
found_plain [] zs y found = cc
found_plain (x ∷ ys) zs y found = found

pub over_plain : {Y : Type 0} (ys zs : List Y) → first_of ys ≡ None → first_of (ys ++ zs) ≡ first_of zs
over_plain [] zs none = refl
over_plain (x ∷ ys) zs none = cc

pub found_mapped : {Y Z : Type 0} (g : Y → Z) (ys : List Y) (zs : List Z) (y : Y) → first_of ys ≡ Some y → first_of (map g ys ++ zs) ≡ Some (g y)
found_mapped g [] zs y found = cc
found_mapped g (x ∷ ys) zs y found = let same : x ≡ y = cc in ap (λ z. Some (g z)) same

pub over_mapped : {Y Z : Type 0} (g : Y → Z) (ys : List Y) (zs : List Z) → first_of ys ≡ None → first_of (map g ys ++ zs) ≡ first_of zs
over_mapped g [] zs none = refl
over_mapped g (x ∷ ys) zs none = cc

pub flat_dropped : {X Y : Type 0} (f : X → List Y) (xs : List X) (i : ℕ) (d : X) → i < length xs → flat_map f (drop i xs) ≡ f (get_or xs i d) ++ flat_map f (drop (i + 1) xs)
flat_dropped {X} {Y} f xs i d h =
    let next : drop i xs ≡ get_or xs i d ∷ drop (i + 1) xs = drop-cons xs i d h ∙ ap (λ (m : ℕ). get_or xs i d ∷ drop m xs) (sym (add-one i)) in
    ap (λ (zs : List X). flat_map f zs) next

pub mapped_none : {Y Z : Type 0} (g : Y → Z) (ys : List Y) → first_of ys ≡ None → first_of (map g ys) ≡ None
mapped_none g [] none = refl
mapped_none g (y ∷ ys) none = cc

pub mapped_some : {Y Z : Type 0} (g : Y → Z) (ys : List Y) (y : Y) → first_of ys ≡ Some y → first_of (map g ys) ≡ Some (g y)
mapped_some g [] y found = cc
mapped_some g (x ∷ ys) y found = let same : x ≡ y = cc in ap (λ z. Some (g z)) same
