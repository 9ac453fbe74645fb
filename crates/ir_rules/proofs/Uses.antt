-- Operands, callees and targets: tests of lists against what is among them.
use Rattle.std.proofs.Common.{◌≡◌, rules, ℕ, Bool, true, cond, ◌&&◌, ◌||◌, not, List, [], ◌∷◌, refl, sym, ap, subst}
use Rattle.std.specs.List.{list_all}
use Rattle.std.proofs.lemmas.Bool.{and_from, and_parts}
use denote.Enum.Bare.{same_true}
use Rattle.ir_rules.proofs.Members.{all_of, among_is, among_map, any_of, each_of, is_member, is_same, same_is, some_of}
use Rattle.ir_rules.specs.Calling.{arg_types, calls_well, is_callee, is_signature, may_name}
use Rattle.ir_rules.specs.Declarations.{same_ret, same_ty, same_tys}
use Rattle.ir_rules.specs.Existing.{exists, value_names}
use Rattle.ir_rules.specs.Lists.{Among, is_among}
use Rattle.ir_rules.specs.Scopes.{Signature, is_of_profile, signatures, symbols, values}
use Rattle.ir_rules.specs.Typing.{fits, fits_at, gives, has_type}
use Rattle.ir_rules.specs.WellFormed.{AllFit, CallsWell, Fits, IsCallee}
use Rattle.ir_tree.specs.Names.{same}
use Rattle.ir_tree.specs.Operands.{Use}
use Rattle.ir_tree.specs.contracts.types.Ty.{the_type}
use Rattle.ir_tree.specs.declared.types.Function.{Function}
use Rattle.ir_tree.specs.declared.types.Instr.{Instr}
use Rattle.ir_tree.specs.declared.types.Instr.TheVariants.{Binary, Compare, Convert, Freeze, Select, Phi, Alloca, Load, Store, Gep, Call, Count}
use Rattle.ir_tree.specs.declared.types.Module.{Module}
use Rattle.ir_tree.specs.declared.types.Operand.{Operand}
use Rattle.ir_tree.specs.declared.types.Operand.TheVariants.{Int, Null, Local, Global}
use Rattle.ir_tree.specs.declared.types.Ret.{Ret}
use Rattle.ir_tree.specs.declared.types.Ret.TheVariants.{Void, Value}
use Rattle.ir_tree.specs.declared.types.Ty.{Ty}
use Rattle.ir_tree.specs.declared.types.Ty.TheVariants.{I1, I8, I16, I32, I64, Ptr}

-- ---- equal types

pub same_ty_is : (t u : Ty) → same_ty t u ≡ true → t ≡ u
unfolding same_ty
same_ty_is t u h = same_true the_type (search rules) t u h

pub ty_self : (t : Ty) → same_ty t t ≡ true
unfolding same_ty
ty_self I1 = refl
ty_self I8 = refl
ty_self I16 = refl
ty_self I32 = refl
ty_self I64 = refl
ty_self Ptr = refl

pub same_tys_is : (ts us : List Ty) → same_tys ts us ≡ true → ts ≡ us
same_tys_is [] [] h = refl
same_tys_is [] (u ∷ us) h = absurd (cc)
same_tys_is (t ∷ ts) [] h = absurd (cc)
same_tys_is (t ∷ ts) (u ∷ us) h =
    let parts = and_parts (same_ty t u) (same_tys ts us) h in
    let first : t ≡ u = same_ty_is t u parts.0 in
    let rest : ts ≡ us = same_tys_is ts us parts.1 in
    (λ i. first i ∷ rest i)

pub tys_self : (ts : List Ty) → same_tys ts ts ≡ true
tys_self [] = refl
tys_self (t ∷ ts) = and_from (same_ty t t) (same_tys ts ts) (ty_self t) (tys_self ts)

pub same_ret_is : (r s : Ret) → same_ret r s ≡ true → r ≡ s
same_ret_is Void Void h = refl
same_ret_is Void (Value u) h = absurd (cc)
same_ret_is (Value t) Void h = absurd (cc)
same_ret_is (Value t) (Value u) h = ap Value (same_ty_is t u h)

pub ret_self : (r : Ret) → same_ret r r ≡ true
ret_self Void = refl
ret_self (Value t) = ty_self t

gives_is : (t : Ty) (r : Ret) → gives t r ≡ true → r ≡ Value t
gives_is t Void h = absurd (cc)
gives_is t (Value u) h = ap Value (same_ty_is u t h)

-- ---- operands

module _ (m : Module) (f : Function) where
  fit_local : (t : Ty) (name : List ℕ) → has_type (values f) t name ≡ true → Among (name, Value t) (values f)
  fit_local t name h =
      let found = some_of (λ (v : List ℕ × Ret). same name v.0 && gives t v.1) (values f) h in
      let parts = and_parts (same name found.0.0) (gives t found.0.1) found.2 in
      let named : found.0.0 ≡ name = sym (same_is name found.0.0 parts.0) in
      let typed : found.0.1 ≡ Value t = gives_is t found.0.1 parts.1 in
      let is : ◌≡◌ {A = List ℕ × Ret} found.0 (name, Value t) = λ i. (named i, typed i) in
      subst (λ (v : List ℕ × Ret). Among v (values f)) is found.1

  fit : (allowed : Bool) (t : Ty) (o : Operand) → exists m f allowed o ≡ true → fits_at (values f) t o ≡ true → Fits m f allowed t o
  fit allowed t (Int value) e h = h
  fit allowed t Null e h = h
  fit allowed t (Local name) e h = fit_local t name h
  fit allowed t (Global name) e h =
      let parts = and_parts (is_among name (symbols m)) (allowed || not (is_of_profile m name)) e in
      (h, among_is name (symbols m) parts.0, parts.1)

  fit_exists : (allowed : Bool) (t : Ty) (o : Operand) → Fits m f allowed t o → exists m f allowed o ≡ true
  fit_exists allowed t (Int value) h = refl
  fit_exists allowed t Null h = refl
  fit_exists allowed t (Local name) h = is_member name (value_names f) (among_map (λ (v : List ℕ × Ret). v.0) (values f) (name, Value t) h)
  fit_exists allowed t (Global name) h = and_from (is_among name (symbols m)) (allowed || not (is_of_profile m name)) (is_member name (symbols m) h.1) h.2

  fit_fits : (allowed : Bool) (t : Ty) (o : Operand) → Fits m f allowed t o → fits_at (values f) t o ≡ true
  fit_fits allowed t (Int value) h = h
  fit_fits allowed t Null h = h
  fit_fits allowed t (Local name) h = any_of (λ (v : List ℕ × Ret). same name v.0 && gives t v.1) (values f) (name, Value t) h (and_from (same name name) (same_ty t t) (is_same name name refl) (ty_self t))
  fit_fits allowed t (Global name) h = h.0

  pub all_fit : (allowed : Bool) (uses : List Use) → list_all (λ (u : Use). exists m f allowed u.1) uses ≡ true → list_all (fits (values f)) uses ≡ true → AllFit m f allowed uses
  all_fit allowed uses e h u at = fit allowed u.0 u.1 (each_of (λ (v : Use). exists m f allowed v.1) uses e u at) (each_of (fits (values f)) uses h u at)

  pub fit_all_exist : (allowed : Bool) (uses : List Use) → AllFit m f allowed uses → list_all (λ (u : Use). exists m f allowed u.1) uses ≡ true
  fit_all_exist allowed uses h = all_of (λ (v : Use). exists m f allowed v.1) uses (λ u at. fit_exists allowed u.0 u.1 (h u at))

  pub fit_all_fit : (allowed : Bool) (uses : List Use) → AllFit m f allowed uses → list_all (fits (values f)) uses ≡ true
  fit_all_fit allowed uses h = all_of (fits (values f)) uses (λ u at. fit_fits allowed u.0 u.1 (h u at))

-- ---- callees

module _ (m : Module) where
  callee : (r : Ret) (args : List Use) (o : Operand) → is_callee m r (arg_types args) o ≡ true → IsCallee m r args o
  callee r args (Int value) h = absurd (cc)
  callee r args Null h = absurd (cc)
  callee r args (Local name) h = tt
  callee r args (Global name) h =
      let found = some_of (is_signature name r (arg_types args)) (signatures m) h in
      let parts = and_parts (same name found.0.0) (same_ret r found.0.1 && same_tys (arg_types args) found.0.2) found.2 in
      let types = and_parts (same_ret r found.0.1) (same_tys (arg_types args) found.0.2) parts.1 in
      let named : found.0.0 ≡ name = sym (same_is name found.0.0 parts.0) in
      let returned : found.0.1 ≡ r = sym (same_ret_is r found.0.1 types.0) in
      let taken : found.0.2 ≡ arg_types args = sym (same_tys_is (arg_types args) found.0.2 types.1) in
      let is : ◌≡◌ {A = Signature} found.0 (name, r, arg_types args) = λ i. (named i, returned i, taken i) in
      subst (λ (s : Signature). Among s (signatures m)) is found.1

  callee_is : (r : Ret) (args : List Use) (o : Operand) → IsCallee m r args o → is_callee m r (arg_types args) o ≡ true
  callee_is r args (Int value) h = absurd h
  callee_is r args Null h = absurd h
  callee_is r args (Local name) h = refl
  callee_is r args (Global name) h = any_of (is_signature name r (arg_types args)) (signatures m) (name, r, arg_types args) h (and_from (same name name) (same_ret r r && same_tys (arg_types args) (arg_types args)) (is_same name name refl) (and_from (same_ret r r) (same_tys (arg_types args) (arg_types args)) (ret_self r) (tys_self (arg_types args))))

  pub calls : (x : Instr) → calls_well m x ≡ true → CallsWell m x
  calls (Binary dest op flags ty left right) h = tt
  calls (Compare dest pred ty left right) h = tt
  calls (Convert dest op flags from value to) h = tt
  calls (Freeze dest ty value) h = tt
  calls (Select dest cond ty first second prof) h = tt
  calls (Phi dest ty entries) h = tt
  calls (Alloca dest mem) h = tt
  calls (Load dest ty address) h = tt
  calls (Store ty value address) h = tt
  calls (Gep dest inbounds mem address indices) h = tt
  calls (Call dest r o args prof) h = let parts = and_parts (may_name r dest) (is_callee m r (arg_types args) o) h in (parts.0, callee r args o parts.1)
  calls (Count symbol size index step) h = tt

  pub calls_is : (x : Instr) → CallsWell m x → calls_well m x ≡ true
  calls_is (Binary dest op flags ty left right) h = refl
  calls_is (Compare dest pred ty left right) h = refl
  calls_is (Convert dest op flags from value to) h = refl
  calls_is (Freeze dest ty value) h = refl
  calls_is (Select dest cond ty first second prof) h = refl
  calls_is (Phi dest ty entries) h = refl
  calls_is (Alloca dest mem) h = refl
  calls_is (Load dest ty address) h = refl
  calls_is (Store ty value address) h = refl
  calls_is (Gep dest inbounds mem address indices) h = refl
  calls_is (Call dest r o args prof) h = and_from (may_name r dest) (is_callee m r (arg_types args) o) h.0 (callee_is r args o h.1)
  calls_is (Count symbol size index step) h = refl

-- ---- names in a list

pub all_among : (names xs : List (List ℕ)) → list_all (λ (n : List ℕ). is_among n xs) names ≡ true → (n : List ℕ) → Among n names → Among n xs
all_among names xs h n at = among_is n xs (each_of (λ (q : List ℕ). is_among q xs) names h n at)

pub among_all : (names xs : List (List ℕ)) → ((n : List ℕ) → Among n names → Among n xs) → list_all (λ (n : List ℕ). is_among n xs) names ≡ true
among_all names xs h = all_of (λ (q : List ℕ). is_among q xs) names (λ n at. is_member n xs (h n at))
