-- The types of arguments against those of parameters, one further.
use Rattle.std.proofs.Common.{◌≡◌, ◌≢◌, ℕ, suc, ◌+◌, ◌<◌, Bool, true, false, ◌&&◌, List, [], ◌∷◌, length, map, drop, get_or, refl, sym, ap, ◌∙◌, add-one, drop-cons}
use Rattle.ir_rules.specs.Calling.{arg_types}
use Rattle.ir_rules.specs.Declarations.{same_ty, same_tys}
use Rattle.ir_tree.specs.Operands.{Use}
use Rattle.ir_tree.specs.declared.types.Ty.{Ty}

abbrev pub Param : Type 0
Param = Ty × List ℕ

abbrev pub types_of : List Param → List Ty
types_of ps = map (λ p. p.0) ps

and_false : (b : Bool) → b && false ≡ false
and_false true = refl
and_false false = refl

pub unequal : (args : List Use) (params : List Param) → (length args ≢ length params) → same_tys (arg_types args) (types_of params) ≡ false
unequal [] [] apart = absurd (apart refl)
unequal [] (p ∷ ps) apart = refl
unequal (a ∷ args) [] apart = refl
unequal (a ∷ args) (p ∷ ps) apart = ap (λ (b : Bool). same_ty a.0 p.0 && b) (unequal args ps (λ alike. apart (ap suc alike))) ∙ and_false (same_ty a.0 p.0)

pub types_step : (args : List Use) (params : List Param) (i : ℕ) (a : Use) (p : Param) → i < length args → i < length params → same_tys (arg_types (drop i args)) (types_of (drop i params)) ≡ (same_ty (get_or args i a).0 (get_or params i p).0 && same_tys (arg_types (drop (i + 1) args)) (types_of (drop (i + 1) params)))
types_step args params i a p h k =
    let x = get_or args i a in
    let y = get_or params i p in
    (λ j. same_tys (arg_types (drop-cons args i a h j)) (types_of (drop-cons params i p k j))) ∙ (λ j. same_ty x.0 y.0 && same_tys (arg_types (drop (sym (add-one i) j) args)) (types_of (drop (sym (add-one i) j) params)))
