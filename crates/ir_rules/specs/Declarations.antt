-- Rule 4. What the environment provides is declared with its types: the printing function, the intrinsics for lifetimes and
-- for counters, and the runtime's function for call targets. No other function has a name of the profile's, and none of
-- these is defined.
use Rattle.std.specs.Prelude.{ℕ, Bool, true, false, ◌&&◌, ◌||◌, if◌then◌else◌, List, [], ◌∷◌, map, codes}
use denote.Enum.Bare.{sameb}
use Rattle.ir_rules.specs.Parts.{Rule, places, silent}
use Rattle.ir_rules.specs.declared.place.Place.{Place}
use Rattle.ir_tree.specs.Functions.{is_declared, is_profile_name, print_name}
use Rattle.ir_tree.specs.Names.{same}
use Rattle.ir_tree.specs.contracts.types.Ty.{the_type}
use Rattle.ir_tree.specs.declared.types.Function.{Function}
use Rattle.ir_tree.specs.declared.types.Module.{Module}
use Rattle.ir_tree.specs.declared.types.Ret.{Ret}
use Rattle.ir_tree.specs.declared.types.Ret.TheVariants.{Void, Value}
use Rattle.ir_tree.specs.declared.types.Ty.{Ty}
use Rattle.ir_tree.specs.declared.types.Ty.TheVariants.{I32, I64, Ptr}

-- ---- equal types

unfoldable pub same_ty : Ty → Ty → Bool
same_ty = sameb the_type

abbrev pub same_tys : List Ty → List Ty → Bool
same_tys [] [] = true
same_tys [] (u ∷ us) = false
same_tys (t ∷ ts) [] = false
same_tys (t ∷ ts) (u ∷ us) = same_ty t u && same_tys ts us

abbrev pub same_ret : Ret → Ret → Bool
same_ret Void Void = true
same_ret Void (Value u) = false
same_ret (Value t) Void = false
same_ret (Value t) (Value u) = same_ty t u

abbrev pub is_void : Ret → Bool
is_void Void = true
is_void (Value t) = false

-- ---- what is provided

abbrev pub param_types : Function → List Ty
param_types f = map (λ p. p.0) f.params

-- it returns nothing and takes values of these types
abbrev pub takes : List Ty → Function → Bool
takes types f = is_void f.ret && same_tys types (param_types f)

-- the name of `llvm.instrprof.increment`, and of the others of a profile
unfoldable pub is_increment : List ℕ → Bool
is_increment name = same (codes "llvm.instrprof.increment") name

unfoldable pub is_increment_step : List ℕ → Bool
is_increment_step name = same (codes "llvm.instrprof.increment.step") name

unfoldable pub is_value_note : List ℕ → Bool
is_value_note name = same (codes "llvm.instrprof.value.profile") name

unfoldable pub is_target_note : List ℕ → Bool
is_target_note name = same (codes "__llvm_profile_instrument_target") name

unfoldable pub is_lifetime : List ℕ → Bool
is_lifetime name = same (codes "llvm.lifetime.start.p0") name || same (codes "llvm.lifetime.end.p0") name

-- a function of the profile is one of four, with its types
abbrev pub has_profile_types : Function → Bool
has_profile_types f =
    if is_increment f.name then takes (Ptr ∷ I64 ∷ I32 ∷ I32 ∷ []) f
    else if is_increment_step f.name then takes (Ptr ∷ I64 ∷ I32 ∷ I32 ∷ I64 ∷ []) f
    else if is_value_note f.name then takes (Ptr ∷ I64 ∷ I64 ∷ I32 ∷ I32 ∷ []) f
    else if is_target_note f.name then takes (I64 ∷ Ptr ∷ I32 ∷ []) f
    else false

-- a declared function that the environment provides has its types
abbrev pub has_provided_types : Function → Bool
has_provided_types f =
    if same print_name f.name then takes (I64 ∷ []) f
    else if is_lifetime f.name then is_void f.ret
    else true

abbrev pub is_declared_well : Function → Bool
is_declared_well f =
    if is_profile_name f.name then is_declared f && has_profile_types f
    else if is_declared f then has_provided_types f
    else true

abbrev pub declarations : Rule
declarations = record silent { head = λ k f. is_declared_well f }

abbrev pub breaks_4 : Module → List Place
breaks_4 m = places declarations m
