-- The first of two lists put together.
use Rattle.std.proofs.Common.{◌≡◌, List, [], ◌∷◌, ◌++◌, map, None, Some, refl, ap}
use Rattle.spec_lists.specs.Each.{first_of}

pub found_plain : {Y : Type 0} (ys zs : List Y) (y : Y) → first_of ys ≡ Some y → first_of (ys ++ zs) ≡ Some y
found_plain [] zs y found = cc
found_plain (x ∷ ys) zs y found = found

pub over_plain : {Y : Type 0} (ys zs : List Y) → first_of ys ≡ None → first_of (ys ++ zs) ≡ first_of zs
over_plain [] zs none = refl
over_plain (x ∷ ys) zs none = cc

pub found_mapped : {Y Z : Type 0} (g : Y → Z) (ys : List Y) (zs : List Z) (y : Y) → first_of ys ≡ Some y → first_of (map g ys ++ zs) ≡ Some (g y)
found_mapped g [] zs y found = cc
found_mapped g (x ∷ ys) zs y found = let same : x ≡ y = cc in ap (λ z. Some (g z)) same

pub over_mapped : {Y Z : Type 0} (g : Y → Z) (ys : List Y) (zs : List Z) → first_of ys ≡ None → first_of (map g ys ++ zs) ≡ first_of zs
over_mapped g [] zs none = refl
over_mapped g (x ∷ ys) zs none = cc
