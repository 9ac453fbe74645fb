-- Types against those of parameters, one further.
use Rattle.std.proofs.Common.{◌≡◌, ◌≢◌, ℕ, suc, ◌+◌, ◌<◌, Bool, true, false, ◌&&◌, List, [], ◌∷◌, length, drop, get_or, map, refl, sym, ap, ◌∙◌, add-one, drop-cons}
use Rattle.ir_rules.specs.Declarations.{same_ty, same_tys}
use Rattle.ir_tree.specs.declared.types.Ty.{Ty}

and_false : (b : Bool) → b && false ≡ false
and_false true = refl
and_false false = refl

pub unequal : (ts : List Ty) (ps : List (Ty × List ℕ)) → (length ts ≢ length ps) → same_tys ts (map (λ (p : Ty × List ℕ). p.0) ps) ≡ false
unequal [] [] apart = absurd (apart refl)
unequal [] (p ∷ ps) apart = refl
unequal (t ∷ ts) [] apart = refl
unequal (t ∷ ts) (p ∷ ps) apart = ap (λ (b : Bool). same_ty t p.0 && b) (unequal ts ps (λ same. apart (ap suc same))) ∙ and_false (same_ty t p.0)

pub types_step : (ts : List Ty) (ps : List (Ty × List ℕ)) (i : ℕ) (t : Ty) (p : Ty × List ℕ) → i < length ts → i < length ps → same_tys (drop i ts) (map (λ (q : Ty × List ℕ). q.0) (drop i ps)) ≡ (same_ty (get_or ts i t) (get_or ps i p).0 && same_tys (drop (i + 1) ts) (map (λ (q : Ty × List ℕ). q.0) (drop (i + 1) ps)))
types_step ts ps i t p h k =
    let x = get_or ts i t in
    let y = get_or ps i p in
    (λ j. same_tys (drop-cons ts i t h j) (map (λ (q : Ty × List ℕ). q.0) (drop-cons ps i p k j))) ∙ (λ j. same_ty x y.0 && same_tys (drop (sym (add-one i) j) ts) (map (λ (q : Ty × List ℕ). q.0) (drop (sym (add-one i) j) ps)))
