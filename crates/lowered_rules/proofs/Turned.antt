-- What an instruction of a module that counts asks for, as the rules tell it.
use Rattle.std.proofs.Common.{rules, ◌≡◌, ℕ, ◌==◌, ◌⊎◌, inl, inr, Bool, true, false, ◌&&◌, ◌||◌, if◌then◌else◌, nat_lt, List, [], ◌∷◌, length, Option, Some, None, refl, sym, ap, subst, ◌∙◌, codes, arith}
use denote.Enum.Bare.{same_true}
use Rattle.std.proofs.lemmas.Bool.{and_parts, or_parts}
use Rattle.count_plan.specs.Calls.{increment_name, step_name, value_name}
use Rattle.ir_rules.specs.Calling.{arg_types, may_name}
use Rattle.ir_rules.specs.Declarations.{has_profile_types, has_provided_types, is_increment, is_increment_step, is_target_note, is_value_note, is_void, same_ty, same_tys}
use Rattle.ir_rules.specs.Existing.{calls_profile}
use Rattle.ir_rules.specs.Intrinsics.{is_counter_total, is_literal, is_number, names_counter, names_place, names_site, names_unit}
use Rattle.ir_rules.specs.Kinds.{is_lowered_kind, is_unit_counters, is_unit_data, kind_of}
use Rattle.ir_rules.specs.Lists.{Among}
use Rattle.ir_rules.specs.Reserved.{is_of_runtime, is_reserved_function}
use Rattle.ir_rules.specs.Scopes.{Signature, signature, signatures}
use Rattle.ir_rules.specs.WellFormed.{AllFit, Fits, InstrFormed, IsWellFormed}
use Rattle.ir_rules.specs.declared.place.Kind.{Kind}
use Rattle.ir_rules.specs.declared.place.Kind.TheVariants.{Counted}
use Rattle.ir_tree.specs.Functions.{is_declared, is_profile_name}
use Rattle.ir_tree.specs.Names.{same}
use Rattle.ir_tree.specs.Operands.{Use, result_of}
use Rattle.ir_tree.specs.Phis.{reads}
use Rattle.ir_tree.specs.Types.{is_integer_of}
use Rattle.ir_tree.specs.contracts.types.Ty.{the_type}
use Rattle.ir_tree.specs.declared.types.Function.{Function}
use Rattle.ir_tree.specs.declared.types.Instr.{Instr}
use Rattle.ir_tree.specs.declared.types.Instr.TheVariants.{Binary, Compare, Convert, Freeze, Select, Phi, Alloca, Load, Store, Gep, Call, Count}
use Rattle.ir_tree.specs.declared.types.Module.{Module}
use Rattle.ir_tree.specs.declared.types.Operand.{Operand}
use Rattle.ir_tree.specs.declared.types.Operand.TheVariants.{Int, Null, Local, Global}
use Rattle.ir_tree.specs.declared.types.Prof.{Prof}
use Rattle.ir_tree.specs.declared.types.Ret.{Ret}
use Rattle.ir_tree.specs.declared.types.Ret.TheVariants.{Void, Value}
use Rattle.ir_tree.specs.declared.types.Ty.{Ty}
use Rattle.ir_tree.specs.declared.types.Ty.TheVariants.{I32, I64, Ptr}
use Rattle.lowered_rules.proofs.Listed.{Name, map_among, not_both, not_true, same_is}
use Rattle.lowering.specs.Asked.{Rise, Note, asked, asked_by, note, rise}

-- ---- names

increment_is : (n : Name) → is_increment n ≡ same increment_name n
unfolding is_increment increment_name
increment_is n = refl

step_is : (n : Name) → is_increment_step n ≡ same step_name n
unfolding is_increment_step step_name
step_is n = refl

value_is : (n : Name) → is_value_note n ≡ same value_name n
unfolding is_value_note value_name
value_is n = refl

increment_profile : (n : Name) → is_increment n ≡ true → is_profile_name n ≡ true
unfolding is_increment is_profile_name
increment_profile n e = ap is_profile_name (sym (same_is (codes "llvm.instrprof.increment") n e))

step_profile : (n : Name) → is_increment_step n ≡ true → is_profile_name n ≡ true
unfolding is_increment_step is_profile_name
step_profile n e = ap is_profile_name (sym (same_is (codes "llvm.instrprof.increment.step") n e))

value_profile : (n : Name) → is_value_note n ≡ true → is_profile_name n ≡ true
unfolding is_value_note is_profile_name
value_profile n e = ap is_profile_name (sym (same_is (codes "llvm.instrprof.value.profile") n e))

note_runtime : (n : Name) → is_target_note n ≡ true → is_of_runtime n ≡ true
unfolding is_target_note is_of_runtime
note_runtime n e = ap is_of_runtime (sym (same_is (codes "__llvm_profile_instrument_target") n e))

pub note_profile : (n : Name) → is_target_note n ≡ true → is_profile_name n ≡ true
unfolding is_target_note is_profile_name
note_profile n e = ap is_profile_name (sym (same_is (codes "__llvm_profile_instrument_target") n e))

value_no_step : (n : Name) → is_value_note n ≡ true → is_increment_step n ≡ false
unfolding is_increment_step is_value_note
value_no_step n e = ap is_increment_step (sym (same_is (codes "llvm.instrprof.value.profile") n e))

pub no_increment : (n : Name) → is_profile_name n ≡ false → is_increment n ≡ false
no_increment n off = not_true (is_increment n) (λ e. not_both (is_profile_name n) (increment_profile n e) off)

pub no_step : (n : Name) → is_profile_name n ≡ false → is_increment_step n ≡ false
no_step n off = not_true (is_increment_step n) (λ e. not_both (is_profile_name n) (step_profile n e) off)

pub no_value : (n : Name) → is_profile_name n ≡ false → is_value_note n ≡ false
no_value n off = not_true (is_value_note n) (λ e. not_both (is_profile_name n) (value_profile n e) off)

-- ---- a call of another function asks for nothing

nothing_asked : (n : Name) (args : List Use) → is_profile_name n ≡ false → asked_by n args ≡ None
nothing_asked n [] off = refl
nothing_asked n (a ∷ []) off = refl
nothing_asked n (a ∷ b ∷ []) off = refl
nothing_asked n (a ∷ b ∷ c ∷ []) off = refl
nothing_asked n (a ∷ b ∷ c ∷ d ∷ []) off = (let e = sym (increment_is n) ∙ no_increment n off in rw e refl)
nothing_asked n (a ∷ b ∷ c ∷ d ∷ e ∷ []) off = (let s = sym (step_is n) ∙ no_step n off in let v = sym (value_is n) ∙ no_value n off in rw s (rw v refl))
nothing_asked n (a ∷ b ∷ c ∷ d ∷ e ∷ f ∷ more) off = refl

-- ---- the types of the profile's functions

as_long : (ts us : List Ty) → same_tys ts us ≡ true → length ts ≡ length us
as_long [] [] h = refl
as_long [] (u ∷ us) h = absurd (cc)
as_long (t ∷ ts) [] h = absurd (cc)
as_long (t ∷ ts) (u ∷ us) h = (let rest = as_long ts us (and_parts (same_ty t u) (same_tys ts us) h).1 in omega (arith, rest))

ty_is : (t u : Ty) → same_ty t u ≡ true → u ≡ t
unfolding same_ty
ty_is t u h = sym (same_true the_type (search rules) t u h)

abbrev increment_types : List Ty
increment_types = Ptr ∷ I64 ∷ I32 ∷ I32 ∷ []

abbrev step_types : List Ty
step_types = Ptr ∷ I64 ∷ I32 ∷ I32 ∷ I64 ∷ []

abbrev value_types : List Ty
value_types = Ptr ∷ I64 ∷ I64 ∷ I32 ∷ I32 ∷ []

abbrev types_of : List Ty → Ret → List Ty → Bool
types_of types ret given = is_void ret && same_tys types given

abbrev profile_types : Signature → Bool
profile_types s =
    if is_increment s.0 then types_of increment_types s.1 s.2
    else if is_increment_step s.0 then types_of step_types s.1 s.2
    else if is_value_note s.0 then types_of value_types s.1 s.2
    else if is_target_note s.0 then types_of (I64 ∷ Ptr ∷ I32 ∷ []) s.1 s.2
    else false

module _ (m : Module) (formed : IsWellFormed m) (counted : kind_of m.functions ≡ Counted) where
  -- no function of the profile runtime
  no_runtime : (g : Function) → Among g m.functions → is_of_runtime g.name ≡ false
  no_runtime g at =
      let free : is_reserved_function Counted g.name ≡ false = ap (λ (kind : Kind). is_reserved_function kind g.name) (sym counted) ∙ (formed.function g at).free in
      let first = or_parts (is_unit_counters g.name) (is_unit_data g.name || is_of_runtime g.name) free in
      (or_parts (is_unit_data g.name) (is_of_runtime g.name) first.1).1

  well_provided : (g : Function) → Among g m.functions → is_profile_name g.name ≡ true → profile_types (signature g) ≡ true
  well_provided g at p =
      (and_parts (is_declared g) (has_profile_types g) (ap (λ (b : Bool). if b then (is_declared g && has_profile_types g) else (if is_declared g then has_provided_types g else true)) (sym p) ∙ (formed.function g at).provided)).1

  -- a function of the profile that is called has its types, and is an intrinsic
  called_types : (s : Signature) → Among s (signatures m) → is_profile_name s.0 ≡ true → (profile_types s ≡ true) × (is_target_note s.0 ≡ false)
  called_types s at p =
      let g = map_among signature m.functions s at in
      let name : s.0 ≡ g.0.name = ap (λ (t : Signature). t.0) g.2 in
      let types : profile_types s ≡ true = ap profile_types g.2 ∙ well_provided g.0 g.1 (ap is_profile_name (sym name) ∙ p) in
      let other : is_target_note s.0 ≡ false = not_true (is_target_note s.0) (λ e. not_both (is_of_runtime g.0.name) (ap is_of_runtime (sym name) ∙ note_runtime s.0 e) (no_runtime g.0 g.1)) in
      (types, other)

  module _ (f : Function) where
    -- a counter of a unit rises by an amount that the instruction reads or that is one
    pub record IsRise (x : Instr) (symbol : Name) (hash counters counter : ℕ) (amount : Operand) : Type 0 where
      pub asks : asked x ≡ Some (Rise symbol hash counters counter amount)
      pub unit : names_unit m (Global symbol) ≡ true
      pub hash_small : is_integer_of I64 hash ≡ true
      pub total : is_counter_total counters ≡ true
      pub counter_small : is_integer_of I32 counter ≡ true
      pub fits : Fits m f true I64 amount
      pub read : (amount ≡ Int 1) ⊎ Among {X = Use} (I64, amount) (reads x)
      pub bare : result_of x ≡ None

    -- what the instruction reads is noted at a site of a unit
    pub record IsNote (x : Instr) (symbol : Name) (hash : ℕ) (target : Operand) (site : ℕ) : Type 0 where
      pub asks : asked x ≡ Some (Note symbol hash target site)
      pub unit : names_unit m (Global symbol) ≡ true
      pub hash_small : is_integer_of I64 hash ≡ true
      pub few : nat_lt site 65536 ≡ true
      pub fits : Fits m f true I64 target
      pub read : Among {X = Use} (I64, target) (reads x)
      pub bare : result_of x ≡ None

    pub data Turn (x : Instr) : Type 0 where
      Stays : asked x ≡ None → calls_profile x ≡ false → Turn x
      Rises : (symbol : Name) (hash counters counter : ℕ) (amount : Operand) → IsRise x symbol hash counters counter amount → Turn x
      Notes : (symbol : Name) (hash : ℕ) (target : Operand) (site : ℕ) → IsNote x symbol hash target site → Turn x

    module _ (prof : Option Prof) (name : Name) where
      abbrev calls : List Use → Instr
      calls args = Call None Void (Global name) args prof

      -- ---- an increment by one

      increment_turn : (tu th tn tc : Ty) (u h n c : Operand) → is_increment name ≡ true → th ≡ I64 → tc ≡ I32 → names_unit m u ≡ true → is_literal h ≡ true → is_number is_counter_total n ≡ true → is_literal c ≡ true → Fits m f true th h → Fits m f true tc c → Turn (calls ((tu, u) ∷ (th, h) ∷ (tn, n) ∷ (tc, c) ∷ []))
      increment_turn tu th tn tc (Int u) h n c e t o a b d l fit counting = absurd (cc)
      increment_turn tu th tn tc Null h n c e t o a b d l fit counting = absurd (cc)
      increment_turn tu th tn tc (Local u) h n c e t o a b d l fit counting = absurd (cc)
      increment_turn tu th tn tc (Global u) Null n c e t o a b d l fit counting = absurd (cc)
      increment_turn tu th tn tc (Global u) (Local h) n c e t o a b d l fit counting = absurd (cc)
      increment_turn tu th tn tc (Global u) (Global h) n c e t o a b d l fit counting = absurd (cc)
      increment_turn tu th tn tc (Global u) (Int h) Null c e t o a b d l fit counting = absurd (cc)
      increment_turn tu th tn tc (Global u) (Int h) (Local n) c e t o a b d l fit counting = absurd (cc)
      increment_turn tu th tn tc (Global u) (Int h) (Global n) c e t o a b d l fit counting = absurd (cc)
      increment_turn tu th tn tc (Global u) (Int h) (Int n) Null e t o a b d l fit counting = absurd (cc)
      increment_turn tu th tn tc (Global u) (Int h) (Int n) (Local c) e t o a b d l fit counting = absurd (cc)
      increment_turn tu th tn tc (Global u) (Int h) (Int n) (Global c) e t o a b d l fit counting = absurd (cc)
      increment_turn tu th tn tc (Global u) (Int h) (Int n) (Int c) e t o a b d l fit counting = Rises u h n c (Int 1) (record {
        asks = ap (λ (k : Bool). if k then Some (Rise u h n c (Int 1)) else None) (sym (increment_is name) ∙ e);
        unit = a;
        hash_small = ap (λ (k : Ty). is_integer_of k h) (sym t) ∙ fit;
        total = d;
        counter_small = ap (λ (k : Ty). is_integer_of k c) (sym o) ∙ counting;
        fits = refl;
        read = inl refl;
        bare = refl;
      })

      -- ---- an increment by an amount

      step_turn : (tu th tn tc ta : Ty) (u h n c v : Operand) → is_increment_step name ≡ true → th ≡ I64 → tc ≡ I32 → ta ≡ I64 → names_unit m u ≡ true → is_literal h ≡ true → is_number is_counter_total n ≡ true → is_literal c ≡ true → Fits m f true th h → Fits m f true tc c → Fits m f true ta v → Turn (calls ((tu, u) ∷ (th, h) ∷ (tn, n) ∷ (tc, c) ∷ (ta, v) ∷ []))
      step_turn tu th tn tc ta (Int u) h n c v e t o q a b d l fit counting more = absurd (cc)
      step_turn tu th tn tc ta Null h n c v e t o q a b d l fit counting more = absurd (cc)
      step_turn tu th tn tc ta (Local u) h n c v e t o q a b d l fit counting more = absurd (cc)
      step_turn tu th tn tc ta (Global u) Null n c v e t o q a b d l fit counting more = absurd (cc)
      step_turn tu th tn tc ta (Global u) (Local h) n c v e t o q a b d l fit counting more = absurd (cc)
      step_turn tu th tn tc ta (Global u) (Global h) n c v e t o q a b d l fit counting more = absurd (cc)
      step_turn tu th tn tc ta (Global u) (Int h) Null c v e t o q a b d l fit counting more = absurd (cc)
      step_turn tu th tn tc ta (Global u) (Int h) (Local n) c v e t o q a b d l fit counting more = absurd (cc)
      step_turn tu th tn tc ta (Global u) (Int h) (Global n) c v e t o q a b d l fit counting more = absurd (cc)
      step_turn tu th tn tc ta (Global u) (Int h) (Int n) Null v e t o q a b d l fit counting more = absurd (cc)
      step_turn tu th tn tc ta (Global u) (Int h) (Int n) (Local c) v e t o q a b d l fit counting more = absurd (cc)
      step_turn tu th tn tc ta (Global u) (Int h) (Int n) (Global c) v e t o q a b d l fit counting more = absurd (cc)
      step_turn tu th tn tc ta (Global u) (Int h) (Int n) (Int c) v e t o q a b d l fit counting more = Rises u h n c v (record {
        asks = ap (λ (k : Bool). if k then Some (Rise u h n c v) else (if same value_name name then note (Global u) (Int h) (Int n) v else None)) (sym (step_is name) ∙ e);
        unit = a;
        hash_small = ap (λ (k : Ty). is_integer_of k h) (sym t) ∙ fit;
        total = d;
        counter_small = ap (λ (k : Ty). is_integer_of k c) (sym o) ∙ counting;
        fits = subst (λ (k : Ty). Fits m f true k v) q more;
        read = inr (inr (inr (inr (inr (inr (inl (λ i. (sym q i, v))))))));
        bare = refl;
      })

      -- ---- a note

      value_turn : (tu th tv tk tj : Ty) (u h v k j : Operand) → is_value_note name ≡ true → th ≡ I64 → tv ≡ I64 → names_unit m u ≡ true → is_literal h ≡ true → is_number (λ value. nat_lt value 65536) j ≡ true → Fits m f true th h → Fits m f true tv v → Turn (calls ((tu, u) ∷ (th, h) ∷ (tv, v) ∷ (tk, k) ∷ (tj, j) ∷ []))
      value_turn tu th tv tk tj (Int u) h v k j e t q a b d fit more = absurd (cc)
      value_turn tu th tv tk tj Null h v k j e t q a b d fit more = absurd (cc)
      value_turn tu th tv tk tj (Local u) h v k j e t q a b d fit more = absurd (cc)
      value_turn tu th tv tk tj (Global u) Null v k j e t q a b d fit more = absurd (cc)
      value_turn tu th tv tk tj (Global u) (Local h) v k j e t q a b d fit more = absurd (cc)
      value_turn tu th tv tk tj (Global u) (Global h) v k j e t q a b d fit more = absurd (cc)
      value_turn tu th tv tk tj (Global u) (Int h) v k Null e t q a b d fit more = absurd (cc)
      value_turn tu th tv tk tj (Global u) (Int h) v k (Local j) e t q a b d fit more = absurd (cc)
      value_turn tu th tv tk tj (Global u) (Int h) v k (Global j) e t q a b d fit more = absurd (cc)
      value_turn tu th tv tk tj (Global u) (Int h) v k (Int j) e t q a b d fit more = Notes u h v j (record {
        asks = ap (λ (b : Bool). if b then rise (Global u) (Int h) v k (Int j) else (if same value_name name then Some (Note u h v j) else None)) (sym (step_is name) ∙ value_no_step name e) ∙ ap (λ (b : Bool). if b then Some (Note u h v j) else None) (sym (value_is name) ∙ e);
        unit = a;
        hash_small = ap (λ (k : Ty). is_integer_of k h) (sym t) ∙ fit;
        few = d;
        fits = subst (λ (k : Ty). Fits m f true k v) q more;
        read = inr (inr (inr (inl (λ i. (sym q i, v)))));
        bare = refl;
      })

      -- ---- by the types of the arguments

      increment_called : (args : List Use) → is_increment name ≡ true → same_tys increment_types (arg_types args) ≡ true → names_place m name args ≡ true → AllFit m f true args → Turn (calls args)
      increment_called [] e t p fit = absurd (omega (arith, as_long increment_types [] t))
      increment_called (a ∷ []) e t p fit = absurd (omega (arith, as_long increment_types (a.0 ∷ []) t))
      increment_called (a ∷ b ∷ []) e t p fit = absurd (omega (arith, as_long increment_types (a.0 ∷ b.0 ∷ []) t))
      increment_called (a ∷ b ∷ c ∷ []) e t p fit = absurd (omega (arith, as_long increment_types (a.0 ∷ b.0 ∷ c.0 ∷ []) t))
      increment_called (a ∷ b ∷ c ∷ d ∷ []) e t p fit =
          let place : names_counter m a b c d ≡ true = ap (λ (k : Bool). if k then names_counter m a b c d else true) (sym e) ∙ p in
          let first = and_parts (names_unit m a.1) (is_literal b.1 && (is_number is_counter_total c.1 && is_literal d.1)) place in
          let second = and_parts (is_literal b.1) (is_number is_counter_total c.1 && is_literal d.1) first.1 in
          let third = and_parts (is_number is_counter_total c.1) (is_literal d.1) second.1 in
          let rest = (and_parts (same_ty Ptr a.0) (same_tys (I64 ∷ I32 ∷ I32 ∷ []) (b.0 ∷ c.0 ∷ d.0 ∷ [])) t).1 in
          let wide = and_parts (same_ty I64 b.0) (same_tys (I32 ∷ I32 ∷ []) (c.0 ∷ d.0 ∷ [])) rest in
          let more = (and_parts (same_ty I32 c.0) (same_tys (I32 ∷ []) (d.0 ∷ [])) wide.1).1 in
          let counter = (and_parts (same_ty I32 d.0) true more).0 in
          increment_turn a.0 b.0 c.0 d.0 a.1 b.1 c.1 d.1 e (ty_is I64 b.0 wide.0) (ty_is I32 d.0 counter) first.0 second.0 third.0 third.1 (fit b (inr (inl refl))) (fit d (inr (inr (inr (inl refl)))))
      increment_called (a ∷ b ∷ c ∷ d ∷ g ∷ more) e t p fit = absurd (omega (arith, as_long increment_types (a.0 ∷ b.0 ∷ c.0 ∷ d.0 ∷ g.0 ∷ arg_types more) t))

      step_called : (args : List Use) → is_increment_step name ≡ true → same_tys step_types (arg_types args) ≡ true → names_place m name args ≡ true → AllFit m f true args → Turn (calls args)
      step_called [] e t p fit = absurd (omega (arith, as_long step_types [] t))
      step_called (a ∷ []) e t p fit = absurd (omega (arith, as_long step_types (a.0 ∷ []) t))
      step_called (a ∷ b ∷ []) e t p fit = absurd (omega (arith, as_long step_types (a.0 ∷ b.0 ∷ []) t))
      step_called (a ∷ b ∷ c ∷ []) e t p fit = absurd (omega (arith, as_long step_types (a.0 ∷ b.0 ∷ c.0 ∷ []) t))
      step_called (a ∷ b ∷ c ∷ d ∷ []) e t p fit = absurd (omega (arith, as_long step_types (a.0 ∷ b.0 ∷ c.0 ∷ d.0 ∷ []) t))
      step_called (a ∷ b ∷ c ∷ d ∷ g ∷ []) e t p fit =
          let place : names_counter m a b c d ≡ true = ap (λ (k : Bool). if k then names_counter m a b c d else if is_value_note name then names_site m a b d g else true) (sym e) ∙ p in
          let first = and_parts (names_unit m a.1) (is_literal b.1 && (is_number is_counter_total c.1 && is_literal d.1)) place in
          let second = and_parts (is_literal b.1) (is_number is_counter_total c.1 && is_literal d.1) first.1 in
          let third = and_parts (is_number is_counter_total c.1) (is_literal d.1) second.1 in
          let rest = (and_parts (same_ty Ptr a.0) (same_tys (I64 ∷ I32 ∷ I32 ∷ I64 ∷ []) (b.0 ∷ c.0 ∷ d.0 ∷ g.0 ∷ [])) t).1 in
          let wide = and_parts (same_ty I64 b.0) (same_tys (I32 ∷ I32 ∷ I64 ∷ []) (c.0 ∷ d.0 ∷ g.0 ∷ [])) rest in
          let more = (and_parts (same_ty I32 c.0) (same_tys (I32 ∷ I64 ∷ []) (d.0 ∷ g.0 ∷ [])) wide.1).1 in
          let last = and_parts (same_ty I32 d.0) (same_tys (I64 ∷ []) (g.0 ∷ [])) more in
          let amount = (and_parts (same_ty I64 g.0) true last.1).0 in
          step_turn a.0 b.0 c.0 d.0 g.0 a.1 b.1 c.1 d.1 g.1 e (ty_is I64 b.0 wide.0) (ty_is I32 d.0 last.0) (ty_is I64 g.0 amount) first.0 second.0 third.0 third.1 (fit b (inr (inl refl))) (fit d (inr (inr (inr (inl refl))))) (fit g (inr (inr (inr (inr (inl refl))))))
      step_called (a ∷ b ∷ c ∷ d ∷ g ∷ h ∷ more) e t p fit = absurd (omega (arith, as_long step_types (a.0 ∷ b.0 ∷ c.0 ∷ d.0 ∷ g.0 ∷ h.0 ∷ arg_types more) t))

      value_called : (args : List Use) → is_value_note name ≡ true → same_tys value_types (arg_types args) ≡ true → names_place m name args ≡ true → AllFit m f true args → Turn (calls args)
      value_called [] e t p fit = absurd (omega (arith, as_long value_types [] t))
      value_called (a ∷ []) e t p fit = absurd (omega (arith, as_long value_types (a.0 ∷ []) t))
      value_called (a ∷ b ∷ []) e t p fit = absurd (omega (arith, as_long value_types (a.0 ∷ b.0 ∷ []) t))
      value_called (a ∷ b ∷ c ∷ []) e t p fit = absurd (omega (arith, as_long value_types (a.0 ∷ b.0 ∷ c.0 ∷ []) t))
      value_called (a ∷ b ∷ c ∷ d ∷ []) e t p fit = absurd (omega (arith, as_long value_types (a.0 ∷ b.0 ∷ c.0 ∷ d.0 ∷ []) t))
      value_called (a ∷ b ∷ c ∷ d ∷ g ∷ []) e t p fit =
          let place : names_site m a b d g ≡ true = ap (λ (k : Bool). if k then names_site m a b d g else true) (sym e) ∙ ap (λ (k : Bool). if k then names_counter m a b c d else if is_value_note name then names_site m a b d g else true) (sym (value_no_step name e)) ∙ p in
          let first = and_parts (names_unit m a.1) (is_literal b.1 && (is_number (λ value. value == 0) d.1 && is_number (λ value. nat_lt value 65536) g.1)) place in
          let second = and_parts (is_literal b.1) (is_number (λ value. value == 0) d.1 && is_number (λ value. nat_lt value 65536) g.1) first.1 in
          let third = and_parts (is_number (λ value. value == 0) d.1) (is_number (λ value. nat_lt value 65536) g.1) second.1 in
          let rest = (and_parts (same_ty Ptr a.0) (same_tys (I64 ∷ I64 ∷ I32 ∷ I32 ∷ []) (b.0 ∷ c.0 ∷ d.0 ∷ g.0 ∷ [])) t).1 in
          let wide = and_parts (same_ty I64 b.0) (same_tys (I64 ∷ I32 ∷ I32 ∷ []) (c.0 ∷ d.0 ∷ g.0 ∷ [])) rest in
          let target = (and_parts (same_ty I64 c.0) (same_tys (I32 ∷ I32 ∷ []) (d.0 ∷ g.0 ∷ [])) wide.1).0 in
          value_turn a.0 b.0 c.0 d.0 g.0 a.1 b.1 c.1 d.1 g.1 e (ty_is I64 b.0 wide.0) (ty_is I64 c.0 target) first.0 second.0 third.1 (fit b (inr (inl refl))) (fit c (inr (inr (inl refl))))
      value_called (a ∷ b ∷ c ∷ d ∷ g ∷ h ∷ more) e t p fit = absurd (omega (arith, as_long value_types (a.0 ∷ b.0 ∷ c.0 ∷ d.0 ∷ g.0 ∷ h.0 ∷ arg_types more) t))

    -- ---- a call by a name

    -- a call that returns nothing has no result's name
    nameless : (dest : Option Name) → may_name Void dest ≡ true → dest ≡ None
    nameless None h = refl
    nameless (Some n) h = absurd (cc)

    module _ (dest : Option Name) (ret : Ret) (name : Name) (args : List Use) (prof : Option Prof) where
      abbrev call_of : Ret → Option Name → Instr
      call_of r d = Call d r (Global name) args prof

      -- it stays of what was told of it
      bare_turn : is_void ret ≡ true → may_name ret dest ≡ true → Turn (call_of Void None) → Turn (call_of ret dest)
      bare_turn v h turn = by ret v h
        where
          by : (r : Ret) → is_void r ≡ true → may_name r dest ≡ true → Turn (call_of r dest)
          by Void v h = subst (λ (d : Option Name). Turn (call_of Void d)) (sym (nameless dest h)) turn
          by (Value t) v h = absurd (cc)

      profile_turn : (types : List Ty) → types_of types ret (arg_types args) ≡ true → may_name ret dest ≡ true → (same_tys types (arg_types args) ≡ true → Turn (call_of Void None)) → Turn (call_of ret dest)
      profile_turn types h named turn = (let p = and_parts (is_void ret) (same_tys types (arg_types args)) h in bare_turn p.0 named (turn p.1))

      called_turn : (profile_types (name, ret, arg_types args) ≡ true) × (is_target_note name ≡ false) → may_name ret dest ≡ true → names_place m name args ≡ true → AllFit m f true args → Turn (call_of ret dest)
      called_turn known named place fit = by (is_increment name) refl (is_increment_step name) refl (is_value_note name) refl known.0
        where
          by : (a : Bool) → is_increment name ≡ a → (b : Bool) → is_increment_step name ≡ b → (c : Bool) → is_value_note name ≡ c → (
              if a then types_of increment_types ret (arg_types args)
              else if b then types_of step_types ret (arg_types args)
              else if c then types_of value_types ret (arg_types args)
              else if is_target_note name then types_of (I64 ∷ Ptr ∷ I32 ∷ []) ret (arg_types args)
              else false) ≡ true → Turn (call_of ret dest)
          by true e b d c q types = profile_turn increment_types types named (λ t. increment_called prof name args e t place fit)
          by false e true d c q types = profile_turn step_types types named (λ t. step_called prof name args d t place fit)
          by false e false d true q types = profile_turn value_types types named (λ t. value_called prof name args q t place fit)
          by false e false d false q types = absurd (cc (ap (λ (k : Bool). if k then types_of (I64 ∷ Ptr ∷ I32 ∷ []) ret (arg_types args) else false) (sym known.1) ∙ types))

      name_turn : InstrFormed m f (call_of ret dest) → Turn (call_of ret dest)
      name_turn h = by (is_profile_name name) refl h.fit
        where
          by : (p : Bool) → is_profile_name name ≡ p → AllFit m f p ((Ptr, Global name) ∷ args) → Turn (call_of ret dest)
          by false e fit = Stays (nothing_asked name args e) e
          by true e fit = called_turn (called_types (name, ret, arg_types args) h.calls.1 e) h.calls.0 h.counts (λ u at. fit u (inr at))

    pub turn : (x : Instr) → InstrFormed m f x → Turn x
    turn (Binary dest op flags ty left right) h = Stays refl refl
    turn (Compare dest pred ty left right) h = Stays refl refl
    turn (Convert dest op flags from value to) h = Stays refl refl
    turn (Freeze dest ty value) h = Stays refl refl
    turn (Select dest c ty first second prof) h = Stays refl refl
    turn (Phi dest ty entries) h = Stays refl refl
    turn (Alloca dest mem) h = Stays refl refl
    turn (Load dest ty address) h = Stays refl refl
    turn (Store ty value address) h = Stays refl refl
    turn (Gep dest inbounds mem address indices) h = Stays refl refl
    turn (Call dest ret (Int callee) args prof) h = Stays refl refl
    turn (Call dest ret Null args prof) h = Stays refl refl
    turn (Call dest ret (Local callee) args prof) h = Stays refl refl
    turn (Call dest ret (Global name) args prof) h = name_turn dest ret name args prof h
    turn (Count symbol size index step) h = absurd (not_both _ (and_parts _ _ h.counted).0 (ap is_lowered_kind counted))
