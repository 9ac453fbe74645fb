-- Of no first item there is none.
use Rattle.std.proofs.Common.{◌≡◌, List, [], ◌∷◌, None, refl}
use Rattle.spec_lists.specs.Each.{first_of}

pub nothing : {Y : Type 0} (ys : List Y) → None ≡ first_of ys → ys ≡ []
nothing [] none = refl
nothing (y ∷ ys) none = absurd (cc)
