-- A lowered instruction is well formed in the lowered module.
use Rattle.std.proofs.Common.{◌≡◌, ℕ, ◌<◌, ◌^◌, ◌⊎◌, inl, inr, Bool, true, false, ◌&&◌, ◌||◌, not, nat_lt, List, [], ◌∷◌, Option, None, refl, sym, ap, subst, ◌∙◌, arith}
use Rattle.std.specs.Prelude.{unwrap_or}
use Rattle.std.specs.List.{list_any}
use Rattle.std.proofs.lemmas.Bool.{and_from, and_parts, eq-eqb, lt-ltb, ltb-true, or_right}
use Rattle.ir_rules.specs.Calling.{arg_types}
use Rattle.ir_rules.specs.Counting.{calls_note_well, has_counters, has_site, is_counted_well}
use Rattle.ir_rules.specs.Declarations.{is_target_note}
use Rattle.ir_rules.specs.Existing.{calls_profile}
use Rattle.ir_rules.specs.Intrinsics.{calls_intrinsic_well, counts_well, names_place}
use Rattle.ir_rules.specs.Kinds.{is_lowered_kind, is_unit_counters, is_unit_data, kind_of}
use Rattle.ir_rules.specs.Lists.{Among}
use Rattle.ir_rules.specs.Scopes.{is_of_profile, symbols, values}
use Rattle.ir_rules.specs.Units.{is_i64, is_some_length, length_of, sites_of}
use Rattle.ir_rules.specs.Walks.{AllHeld, HeldAt}
use Rattle.ir_rules.specs.WellFormed.{CallsWell, Fits, InstrFormed, IsCallee}
use Rattle.ir_tree.specs.Functions.{is_profile_name}
use Rattle.ir_tree.specs.Names.{same}
use Rattle.ir_tree.specs.Operands.{Use, result_of}
use Rattle.ir_tree.specs.Phis.{reads}
use Rattle.ir_tree.specs.Types.{is_integer_of}
use Rattle.ir_tree.specs.declared.types.Block.{Block}
use Rattle.ir_tree.specs.declared.types.Function.{Function}
use Rattle.ir_tree.specs.declared.types.Global1.{Global1}
use Rattle.ir_tree.specs.declared.types.Instr.{Instr}
use Rattle.ir_tree.specs.declared.types.Instr.TheVariants.{Binary, Compare, Convert, Freeze, Select, Phi, Alloca, Load, Store, Gep, Call, Count}
use Rattle.ir_tree.specs.declared.types.Module.{Module}
use Rattle.ir_tree.specs.declared.types.Operand.{Operand}
use Rattle.ir_tree.specs.declared.types.Operand.TheVariants.{Int, Null, Local, Global}
use Rattle.ir_tree.specs.declared.types.Ret.{Ret}
use Rattle.ir_tree.specs.declared.types.Ret.TheVariants.{Value}
use Rattle.ir_tree.specs.declared.types.Ty.{Ty}
use Rattle.ir_tree.specs.declared.types.Ty.TheVariants.{I32, I64, Ptr}
use Rattle.lowered_rules.proofs.Blocks.{ResultsStay, values_same}
use Rattle.lowered_rules.proofs.Data.{sites_are}
use Rattle.lowered_rules.proofs.Listed.{Name, among_right, any_of, not_both, not_true, same_self}
use Rattle.lowered_rules.proofs.Symbols.{counters_named, data_named, kind_is, new_variable, program_kept, runtime_profile, runtime_signature, runtime_symbol, signature_kept}
use Rattle.lowered_rules.proofs.Told.{asks_among, count_agrees, counter_within, site_within, unit_named, unit_parts}
use Rattle.lowered_rules.proofs.Turned.{Notes, Rises, Stays, Turn, no_increment, no_step, no_value, note_profile, turn}
use Rattle.lowered_rules.specs.Kept.{IsLowerable}
use Rattle.lowering.specs.Asked.{Asked, Rise, Note, all_asked}
use Rattle.lowering.specs.Lowered.{doing, lowered, lowered_function, lowered_instr, noting, runtime_name}
use Rattle.lowering.specs.Units.{counters_global, counters_symbol, counters_told, data_global, data_symbol, hash_told, name_held, new_globals, sites_told}
use Rattle.pgo_base.specs.Hash.{hash8}

-- ---- a call of a function that is none of the profile

other_place : (m : Module) (n : Name) (args : List Use) → is_profile_name n ≡ false → names_place m n args ≡ true
other_place m n [] off = refl
other_place m n (a ∷ []) off = refl
other_place m n (a ∷ b ∷ []) off = refl
other_place m n (a ∷ b ∷ c ∷ []) off = refl
other_place m n (a ∷ b ∷ c ∷ d ∷ []) off = (let e = no_increment n off in rw e refl)
other_place m n (a ∷ b ∷ c ∷ d ∷ e ∷ []) off = (let s = no_step n off in let v = no_value n off in rw s (rw v refl))
other_place m n (a ∷ b ∷ c ∷ d ∷ e ∷ f ∷ more) off = refl

other_note : (m : Module) (n : Name) (args : List Use) → is_profile_name n ≡ false → calls_note_well m (Global n) args ≡ true
other_note m n args off = (let e = not_true (is_target_note n) (λ e. not_both (is_profile_name n) (note_profile n e) off) in rw e refl)

note_is_runtime : is_target_note runtime_name ≡ true
unfolding is_target_note runtime_name
note_is_runtime = refl

module _ (m : Module) (low : IsLowerable m) where
  abbrev n2 : Module
  n2 = lowered m

  abbrev turns : Function → Instr → Type 0
  turns f x = Turn m low.formed low.counted f x

  -- ---- results and what is read

  pub turn_result : (f : Function) (x : Instr) → turns f x → result_of (lowered_instr x) ≡ result_of x
  turn_result f x (Stays none off) = ap (λ (o : Option Asked). result_of (doing x o)) none
  turn_result f x (Rises symbol hash counters counter amount r) = ap (λ (o : Option Asked). result_of (doing x o)) r.asks ∙ sym r.bare
  turn_result f x (Notes symbol hash target site r) = ap (λ (o : Option Asked). result_of (doing x o)) r.asks ∙ sym r.bare

  held_of : (H : Name → Type 0) (us : List Use) (u : Use) → AllHeld H us → Among u us → HeldAt H u.1
  held_of H [] u h at = absurd at
  held_of H (v ∷ us) u h (inl e) = subst (λ (w : Use). HeldAt H w.1) (sym e) h.0
  held_of H (v ∷ us) u h (inr at) = held_of H us u h.1 at

  amount_held : (H : Name → Type 0) (us : List Use) (amount : Operand) → (amount ≡ Int 1) ⊎ Among {X = Use} (I64, amount) us → AllHeld H us → HeldAt H amount
  amount_held H us amount (inl e) h = subst (λ (o : Operand). HeldAt H o) (sym e) tt
  amount_held H us amount (inr at) h = held_of H us (I64, amount) h at

  pub turn_reads : (f : Function) (x : Instr) → turns f x → (H : Name → Type 0) → AllHeld H (reads x) → AllHeld H (reads (lowered_instr x))
  turn_reads f x (Stays none off) H h = subst (λ (o : Option Asked). AllHeld H (reads (doing x o))) (sym none) h
  turn_reads f x (Rises symbol hash counters counter amount r) H h = subst (λ (o : Option Asked). AllHeld H (reads (doing x o))) (sym r.asks) (amount_held H (reads x) amount r.read h, tt)
  turn_reads f x (Notes symbol hash target site r) H h = subst (λ (o : Option Asked). AllHeld H (reads (doing x o))) (sym r.asks) (tt, (held_of H (reads x) (I64, target) h r.read, (tt, (tt, tt))))

  -- ---- the globals of a unit that a call names

  abbrev asks : List Asked
  asks = all_asked m

  abbrev counters_of : Global1 → ℕ
  counters_of g = unwrap_or (counters_told g.name asks) 0

  abbrev first_part : Global1 → Global1
  first_part g = counters_global g.name (counters_of g)

  abbrev second_part : Global1 → Global1
  second_part g = data_global g.name (hash8 (name_held g)) (unwrap_or (hash_told g.name asks) 0) (counters_of g) (sites_told g.name asks)

  in_module : (g : Global1) → Among g (new_globals asks m.globals) → Among g n2.globals
  in_module g at = among_right m.globals (new_globals asks m.globals) g at

  counters_here : (symbol : Name) (hash counters counter : ℕ) (amount : Operand) → Among (Rise symbol hash counters counter amount) asks → has_counters n2 (counters_symbol symbol) counters ≡ true
  counters_here symbol hash counters counter amount at =
      let g = unit_named m low (Rise symbol hash counters counter amount) at in
      let there = in_module (first_part g.0) (unit_parts m low g.0 g.1 g.3 (first_part g.0) (inl refl)) in
      let many : counters_of g.0 ≡ counters = ap (λ (n : Name). unwrap_or (counters_told n asks) 0) (sym g.2) ∙ ap (λ (o : Option ℕ). unwrap_or o 0) (count_agrees m low symbol hash counters counter amount at) in
      let named : same (counters_symbol symbol) (first_part g.0).name ≡ true = ap (λ (n : Name). same (counters_symbol symbol) (counters_symbol n)) (sym g.2) ∙ same_self (counters_symbol symbol) in
      let long : is_some_length counters (length_of is_i64 (first_part g.0).mem) ≡ true = eq-eqb (counters_of g.0) counters many in
      and_from (is_unit_counters (counters_symbol symbol)) (list_any (λ (h : Global1). same (counters_symbol symbol) h.name && is_some_length counters (length_of is_i64 h.mem)) n2.globals) (counters_named symbol) (
      any_of (λ (h : Global1). same (counters_symbol symbol) h.name && is_some_length counters (length_of is_i64 h.mem)) n2.globals (first_part g.0) there (and_from (same (counters_symbol symbol) (first_part g.0).name) (is_some_length counters (length_of is_i64 (first_part g.0).mem)) named long))

  module _ (symbol : Name) (hash : ℕ) (target : Operand) (site : ℕ) (at : Among (Note symbol hash target site) asks) where
    data_symbol_here : Among (data_symbol symbol) (symbols n2)
    data_symbol_here =
        let g = unit_named m low (Note symbol hash target site) at in
        subst (λ (n : Name). Among (data_symbol n) (symbols n2)) (sym g.2) (new_variable m low (second_part g.0) (unit_parts m low g.0 g.1 g.3 (second_part g.0) (inr (inl refl))))

    site_here : has_site n2 (data_symbol symbol) site ≡ true
    site_here =
        let g = unit_named m low (Note symbol hash target site) at in
        let there = in_module (second_part g.0) (unit_parts m low g.0 g.1 g.3 (second_part g.0) (inr (inl refl))) in
        let named : same (data_symbol symbol) (second_part g.0).name ≡ true = ap (λ (n : Name). same (data_symbol symbol) (data_symbol n)) (sym g.2) ∙ same_self (data_symbol symbol) in
        let most : site < sites_told g.0.name asks = subst (λ (n : Name). site < sites_told n asks) g.2 (site_within m low symbol hash target site at) in
        let few : nat_lt site (sites_of (second_part g.0)) ≡ true = ap (λ (k : ℕ). nat_lt site k) (sites_are g.0.name (hash8 (name_held g.0)) (unwrap_or (hash_told g.0.name asks) 0) (counters_of g.0) (sites_told g.0.name asks)) ∙ lt-ltb site (sites_told g.0.name asks) most in
        and_from (is_unit_data (data_symbol symbol)) (list_any (λ (h : Global1). same (data_symbol symbol) h.name && nat_lt site (sites_of h)) n2.globals) (data_named symbol) (
        any_of (λ (h : Global1). same (data_symbol symbol) h.name && nat_lt site (sites_of h)) n2.globals (second_part g.0) there (and_from (same (data_symbol symbol) (second_part g.0).name) (nat_lt site (sites_of (second_part g.0))) named few))

  -- ---- in a function

  module _ (f : Function) (here : Among f m.functions) (stay : (b : Block) → Among b f.blocks → ResultsStay b.instrs) where
    abbrev g : Function
    g = lowered_function f

    value_kept : (v : Name × Ret) → Among v (values f) → Among v (values g)
    value_kept v at = subst (λ (vs : List (Name × Ret)). Among v vs) (sym (values_same f stay)) at

    pub fits_kept : (allowed : Bool) → allowed ≡ false → (t : Ty) (o : Operand) → Fits m f allowed t o → Fits n2 g allowed t o
    fits_kept allowed off t (Int value) h = h
    fits_kept allowed off t Null h = h
    fits_kept allowed off t (Local name) h = value_kept (name, Value t) h
    fits_kept allowed off t (Global name) h =
        let kept = program_kept m low name h.1 (off_of (is_of_profile m name) (ap (λ (b : Bool). b || not (is_of_profile m name)) (sym off) ∙ h.2)) in
        (h.0, kept.0, or_right allowed (not (is_of_profile n2 name)) (ap not kept.1))
      where
        off_of : (b : Bool) → not b ≡ true → b ≡ false
        off_of true e = absurd (cc)
        off_of false e = refl

    -- an integer
    integer_kept : (o : Operand) (allowed : Bool) → Fits m f true I64 o → Fits n2 g allowed I64 o
    integer_kept (Int value) allowed h = h
    integer_kept Null allowed h = absurd (cc h)
    integer_kept (Local name) allowed h = value_kept (name, Value I64) h
    integer_kept (Global name) allowed h = absurd (let p = h.0 in cc p)

    callee_kept : (ret : Ret) (args : List Use) (o : Operand) → calls_profile (Call None ret o args None) ≡ false → IsCallee m ret args o → IsCallee n2 ret args o
    callee_kept ret args (Int value) off h = h
    callee_kept ret args Null off h = h
    callee_kept ret args (Local name) off h = h
    callee_kept ret args (Global name) off h = signature_kept m low (name, ret, arg_types args) h off

    calls_kept : (x : Instr) → calls_profile x ≡ false → CallsWell m x → CallsWell n2 x
    calls_kept (Binary into op flags ty left right) off h = h
    calls_kept (Compare into pred ty left right) off h = h
    calls_kept (Convert into op flags from value to) off h = h
    calls_kept (Freeze into ty value) off h = h
    calls_kept (Select into c ty first second prof) off h = h
    calls_kept (Phi into ty entries) off h = h
    calls_kept (Alloca into mem) off h = h
    calls_kept (Load into ty address) off h = h
    calls_kept (Store ty value address) off h = h
    calls_kept (Gep into inbounds mem address indices) off h = h
    calls_kept (Call into ret callee args prof) off h = (h.0, callee_kept ret args callee off h.1)
    calls_kept (Count symbol size index step) off h = h

    intrinsic_kept : (ret : Ret) (callee : Operand) (args : List Use) → calls_profile (Call None ret callee args None) ≡ false → calls_intrinsic_well n2 callee args ≡ true
    intrinsic_kept ret (Int value) args off = refl
    intrinsic_kept ret Null args off = refl
    intrinsic_kept ret (Local name) args off = refl
    intrinsic_kept ret (Global name) args off = other_place n2 name args off

    note_kept : (ret : Ret) (callee : Operand) (args : List Use) → calls_profile (Call None ret callee args None) ≡ false → calls_note_well n2 callee args ≡ true
    note_kept ret (Int value) args off = refl
    note_kept ret Null args off = refl
    note_kept ret (Local name) args off = refl
    note_kept ret (Global name) args off = other_note n2 name args off

    counts_kept : (x : Instr) → calls_profile x ≡ false → counts_well n2 x ≡ true
    counts_kept (Binary into op flags ty left right) off = refl
    counts_kept (Compare into pred ty left right) off = refl
    counts_kept (Convert into op flags from value to) off = refl
    counts_kept (Freeze into ty value) off = refl
    counts_kept (Select into c ty first second prof) off = refl
    counts_kept (Phi into ty entries) off = refl
    counts_kept (Alloca into mem) off = refl
    counts_kept (Load into ty address) off = refl
    counts_kept (Store ty value address) off = refl
    counts_kept (Gep into inbounds mem address indices) off = refl
    counts_kept (Call into ret callee args prof) off = intrinsic_kept ret callee args off
    counts_kept (Count symbol size index step) off = refl

    counted_kept : (x : Instr) → calls_profile x ≡ false → is_counted_well m x ≡ true → is_counted_well n2 x ≡ true
    counted_kept (Binary into op flags ty left right) off e = refl
    counted_kept (Compare into pred ty left right) off e = refl
    counted_kept (Convert into op flags from value to) off e = refl
    counted_kept (Freeze into ty value) off e = refl
    counted_kept (Select into c ty first second prof) off e = refl
    counted_kept (Phi into ty entries) off e = refl
    counted_kept (Alloca into mem) off e = refl
    counted_kept (Load into ty address) off e = refl
    counted_kept (Store ty value address) off e = refl
    counted_kept (Gep into inbounds mem address indices) off e = refl
    counted_kept (Call into ret callee args prof) off e = note_kept ret callee args off
    counted_kept (Count symbol size index step) off e = absurd (not_both _ (and_parts _ _ e).0 (ap is_lowered_kind low.counted))

    stays_formed : (x : Instr) → calls_profile x ≡ false → InstrFormed m f x → InstrFormed n2 g x
    stays_formed x off h = record {
      named = h.named;
      fit = λ u at. fits_kept (calls_profile x) off u.0 u.1 (h.fit u at);
      typed = h.typed;
      calls = calls_kept x off h.calls;
      weighed = h.weighed;
      counts = counts_kept x off;
      counted = counted_kept x off h.counted;
    }

    rise_formed : (symbol : Name) (hash counters counter : ℕ) (amount : Operand) → Among (Rise symbol hash counters counter amount) asks → Fits m f true I64 amount → InstrFormed n2 g (Count (counters_symbol symbol) counters counter amount)
    rise_formed symbol hash counters counter amount at fits = record {
      named = refl;
      fit = λ u there. fit u there;
      typed = refl;
      calls = tt;
      weighed = refl;
      counts = refl;
      counted = and_from (is_lowered_kind (kind_of n2.functions)) (nat_lt counter counters && has_counters n2 (counters_symbol symbol) counters) (ap is_lowered_kind (kind_is m)) (and_from (nat_lt counter counters) (has_counters n2 (counters_symbol symbol) counters) (counter_within m low symbol hash counters counter amount at) (counters_here symbol hash counters counter amount at));
    }
      where
        fit : (u : Use) → Among u ((I64, amount) ∷ []) → Fits n2 g false u.0 u.1
        fit u (inl e) = subst (λ (w : Use). Fits n2 g false w.0 w.1) (sym e) (integer_kept amount false fits)
        fit u (inr none) = absurd none

    note_formed : (symbol : Name) (hash : ℕ) (target : Operand) (site : ℕ) → Among (Note symbol hash target site) asks → nat_lt site 65536 ≡ true → Fits m f true I64 target → InstrFormed n2 g (noting symbol target site)
    note_formed symbol hash target site at few fits = record {
      named = refl;
      fit = λ u there. fit u there;
      typed = refl;
      calls = (refl, runtime_signature m low);
      weighed = refl;
      counts = refl;
      counted = (let e = note_is_runtime in rw e (site_here symbol hash target site at));
    }
      where
        allowed : calls_profile (noting symbol target site) ≡ true
        allowed = runtime_profile

        symbol_fits : (n : Name) → Among n (symbols n2) → Fits n2 g (calls_profile (noting symbol target site)) Ptr (Global n)
        symbol_fits n there = (refl, there, ap (λ (b : Bool). b || not (is_of_profile n2 n)) allowed)

        site_fits : is_integer_of I32 site ≡ true
        site_fits = (let s = ltb-true site 65536 few in lt-ltb site (2 ^ 32) (omega (arith, s)))

        fit : (u : Use) → Among u ((Ptr, Global runtime_name) ∷ (I64, target) ∷ (Ptr, Global (data_symbol symbol)) ∷ (I32, Int site) ∷ []) → Fits n2 g (calls_profile (noting symbol target site)) u.0 u.1
        fit u (inl e) = subst (λ (w : Use). Fits n2 g (calls_profile (noting symbol target site)) w.0 w.1) (sym e) (symbol_fits runtime_name (runtime_symbol m low))
        fit u (inr (inl e)) = subst (λ (w : Use). Fits n2 g (calls_profile (noting symbol target site)) w.0 w.1) (sym e) (integer_kept target (calls_profile (noting symbol target site)) fits)
        fit u (inr (inr (inl e))) = subst (λ (w : Use). Fits n2 g (calls_profile (noting symbol target site)) w.0 w.1) (sym e) (symbol_fits (data_symbol symbol) (data_symbol_here symbol hash target site at))
        fit u (inr (inr (inr (inl e)))) = subst (λ (w : Use). Fits n2 g (calls_profile (noting symbol target site)) w.0 w.1) (sym e) site_fits
        fit u (inr (inr (inr (inr none)))) = absurd none

    pub instr_formed : (b : Block) → Among b f.blocks → (x : Instr) → Among x b.instrs → InstrFormed m f x → InstrFormed n2 g (lowered_instr x)
    instr_formed b there x at h = by (turn m low.formed low.counted f x h)
      where
        by : turns f x → InstrFormed n2 g (lowered_instr x)
        by (Stays none off) = subst (λ (o : Option Asked). InstrFormed n2 g (doing x o)) (sym none) (stays_formed x off h)
        by (Rises symbol hash counters counter amount r) =
            subst (λ (o : Option Asked). InstrFormed n2 g (doing x o)) (sym r.asks) (rise_formed symbol hash counters counter amount (asks_among m f b x (Rise symbol hash counters counter amount) here there at r.asks) r.fits)
        by (Notes symbol hash target site r) =
            subst (λ (o : Option Asked). InstrFormed n2 g (doing x o)) (sym r.asks) (note_formed symbol hash target site (asks_among m f b x (Note symbol hash target site) here there at r.asks) r.few r.fits)
