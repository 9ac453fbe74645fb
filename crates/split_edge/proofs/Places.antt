-- A list with one item at a place, one item further.
use Rattle.std.proofs.Common.{◌≡◌, ℕ, suc, ◌+◌, ◌-◌, ◌<◌, List, [], ◌∷◌, ◌++◌, sym, ap, ◌∙◌, append_assoc, arith}
use Rattle.edge_split.specs.Split.{at_place}

module _ {A : Type 0} (nothing x : A) where
  place_turn : (n k : ℕ) → k < n → at_place nothing (n - k) x ≡ nothing ∷ at_place nothing (n - (k + 1)) x
  place_turn n k h = let e : n - k ≡ suc (n - (k + 1)) = omega arith in ap (λ m. at_place nothing m x) e

  pub place_put : (n k : ℕ) → k < n → (now next : List A) → next ≡ now ++ nothing ∷ [] → (all : List A) → now ++ at_place nothing (n - k) x ≡ all → next ++ at_place nothing (n - (k + 1)) x ≡ all
  place_put n k h now next put all was =
      let rest : List A = at_place nothing (n - (k + 1)) x in
      ap (λ (zs : List A). zs ++ rest) put ∙ append_assoc now (nothing ∷ []) rest ∙ ap (λ (zs : List A). now ++ zs) (sym (place_turn n k h)) ∙ was
