-- The instructions and terminators of a function that counts are well formed, each by itself.
use Rattle.std.proofs.Common.{◌≡◌, ℕ, ◌⊎◌, inl, inr, Bool, true, false, not, cond, List, [], ◌∷◌, map, Option, Some, None, slice_get, refl, sym, ap, subst, ◌∙◌, codes}
use Rattle.std.specs.List.{cons_option, filter_map, flat_map}
use Rattle.std.proofs.lemmas.Bool.{and_parts, or_right}
use Rattle.count_plan.specs.Counted.{counted_blocks, counted_function}
use Rattle.count_plan.specs.Ways.{renamed, renamed_phi, renamings}
use Rattle.count_plan.specs.declared.plan.FunctionPlan.{FunctionPlan}
use Rattle.counted_rules.proofs.Instrs.{item_stays}
use Rattle.counted_rules.proofs.Listed.{Name, among_at, among_either, among_flat, among_left, among_right, flat_among, same_is}
use Rattle.counted_rules.proofs.NamesKept.{same_result}
use Rattle.counted_rules.proofs.Ways.{made_of, old_among, plan_at}
use Rattle.counted_rules.specs.Kept.{TakesOver}
use Rattle.ir_rules.specs.Calling.{arg_types}
use Rattle.ir_rules.specs.Counting.{calls_note_well, is_counted_well}
use Rattle.ir_rules.specs.Declarations.{is_increment, is_increment_step, is_target_note, is_value_note}
use Rattle.ir_rules.specs.Existing.{calls_profile, names_profile}
use Rattle.ir_rules.specs.Intrinsics.{calls_intrinsic_well, counts_well, names_place}
use Rattle.ir_rules.specs.Lists.{Among}
use Rattle.ir_rules.specs.Scopes.{block_values, is_of_profile, values}
use Rattle.ir_rules.specs.WellFormed.{AllFit, CallsWell, Fits, InstrFormed, IsCallee}
use Rattle.ir_tree.specs.Functions.{is_profile_name}
use Rattle.ir_tree.specs.Names.{same}
use Rattle.ir_tree.specs.Operands.{Entries, Use, operands, result_of}
use Rattle.ir_tree.specs.Phis.{rename_first}
use Rattle.ir_tree.specs.declared.types.Block.{Block}
use Rattle.ir_tree.specs.declared.types.Function.{Function}
use Rattle.ir_tree.specs.declared.types.Instr.{Instr}
use Rattle.ir_tree.specs.declared.types.Instr.TheVariants.{Binary, Compare, Convert, Freeze, Select, Phi, Alloca, Load, Store, Gep, Call, Count}
use Rattle.ir_tree.specs.declared.types.Module.{Module}
use Rattle.ir_tree.specs.declared.types.Operand.{Operand}
use Rattle.ir_tree.specs.declared.types.Operand.TheVariants.{Int, Null, Local, Global}
use Rattle.ir_tree.specs.declared.types.Ret.{Ret}
use Rattle.ir_tree.specs.declared.types.Ret.TheVariants.{Value}
use Rattle.ir_tree.specs.declared.types.Ty.{Ty}
use Rattle.ir_tree.specs.declared.types.Ty.TheVariants.{Ptr}

-- ---- the names of the profile

abbrev true_false : Type 0
true_false = true ≡ false → ⊥

not_both : (b : Bool) → b ≡ true → b ≡ false → ⊥
not_both b e f = absurd (cc (sym e ∙ f))

off_by : (test other : Name → Bool) (n : Name) → (test n ≡ true → other n ≡ true) → other n ≡ false → test n ≡ false
off_by test other n h off = by (test n) refl
  where
    by : (b : Bool) → test n ≡ b → b ≡ false
    by true e = absurd (not_both (other n) (h e) off)
    by false e = refl

increment_profile : (n : Name) → is_increment n ≡ true → is_profile_name n ≡ true
unfolding is_increment is_profile_name
increment_profile n e = ap is_profile_name (sym (same_is (codes "llvm.instrprof.increment") n e))

step_profile : (n : Name) → is_increment_step n ≡ true → is_profile_name n ≡ true
unfolding is_increment_step is_profile_name
step_profile n e = ap is_profile_name (sym (same_is (codes "llvm.instrprof.increment.step") n e))

value_profile : (n : Name) → is_value_note n ≡ true → is_profile_name n ≡ true
unfolding is_value_note is_profile_name
value_profile n e = ap is_profile_name (sym (same_is (codes "llvm.instrprof.value.profile") n e))

note_profile : (n : Name) → is_target_note n ≡ true → is_profile_name n ≡ true
unfolding is_target_note is_profile_name
note_profile n e = ap is_profile_name (sym (same_is (codes "__llvm_profile_instrument_target") n e))

-- a call of another function is no intrinsic's
other_place : (m : Module) (n : Name) (args : List Use) → is_profile_name n ≡ false → names_place m n args ≡ true
other_place m n [] off = refl
other_place m n (a ∷ []) off = refl
other_place m n (a ∷ b ∷ []) off = refl
other_place m n (a ∷ b ∷ c ∷ []) off = refl
other_place m n (a ∷ b ∷ c ∷ d ∷ []) off = (let e = off_by is_increment is_profile_name n (increment_profile n) off in rw e refl)
other_place m n (a ∷ b ∷ c ∷ d ∷ e ∷ []) off =
    (let s = off_by is_increment_step is_profile_name n (step_profile n) off in let v = off_by is_value_note is_profile_name n (value_profile n) off in rw s (rw v refl))
other_place m n (a ∷ b ∷ c ∷ d ∷ e ∷ f ∷ more) off = refl

other_note : (m : Module) (n : Name) (args : List Use) → is_profile_name n ≡ false → calls_note_well m (Global n) args ≡ true
other_note m n args off = (let e = off_by is_target_note is_profile_name n (note_profile n) off in rw e refl)

-- ---- what is formed in a module is formed in one that takes it over, in a function with the same values and more

module _ (m m2 : Module) (takes : TakesOver m m2) (f f2 : Function) (more : (v : Name × Ret) → Among v (values f) → Among v (values f2)) where
  fits_in : (allowed : Bool) (t : Ty) (o : Operand) → Fits m f allowed t o → Fits m2 f2 allowed t o
  fits_in allowed t (Int value) h = h
  fits_in allowed t Null h = h
  fits_in allowed t (Local name) h = more (name, Value t) h
  fits_in allowed t (Global name) h = (h.0, takes.has_symbols name h.1, or_right allowed (not (is_of_profile m2 name)) (ap not (takes.of_program name h.1)))

  pub all_in : (allowed : Bool) (us : List Use) → AllFit m f allowed us → AllFit m2 f2 allowed us
  all_in allowed us h u at = fits_in allowed u.0 u.1 (h u at)

  -- ---- an instruction of the function

  callee_kept : (ret : Ret) (args : List Use) (o : Operand) → IsCallee m ret args o → IsCallee m2 ret args o
  callee_kept ret args (Int value) h = h
  callee_kept ret args Null h = h
  callee_kept ret args (Local name) h = h
  callee_kept ret args (Global name) h = takes.has_signatures (name, ret, arg_types args) h

  calls_kept : (x : Instr) → CallsWell m x → CallsWell m2 x
  calls_kept (Binary into op flags ty left right) h = h
  calls_kept (Compare into pred ty left right) h = h
  calls_kept (Convert into op flags from value to) h = h
  calls_kept (Freeze into ty value) h = h
  calls_kept (Select into c ty first second prof) h = h
  calls_kept (Phi into ty entries) h = h
  calls_kept (Alloca into mem) h = h
  calls_kept (Load into ty address) h = h
  calls_kept (Store ty value address) h = h
  calls_kept (Gep into inbounds mem address indices) h = h
  calls_kept (Call into ret callee args prof) h = (h.0, callee_kept ret args callee h.1)
  calls_kept (Count symbol size index step) h = h

  -- the callee of a call by its name is no function of the profile
  of_program : (allowed : Bool) (n : Name) → Fits m f allowed Ptr (Global n) → is_profile_name n ≡ false
  of_program allowed n h = takes.no_profile n h.1

  intrinsic_kept : (allowed : Bool) (callee : Operand) (args : List Use) → Fits m f allowed Ptr callee → calls_intrinsic_well m2 callee args ≡ true
  intrinsic_kept allowed (Int value) args h = refl
  intrinsic_kept allowed Null args h = refl
  intrinsic_kept allowed (Local name) args h = refl
  intrinsic_kept allowed (Global name) args h = other_place m2 name args (of_program allowed name h)

  note_kept : (allowed : Bool) (callee : Operand) (args : List Use) → Fits m f allowed Ptr callee → calls_note_well m2 callee args ≡ true
  note_kept allowed (Int value) args h = refl
  note_kept allowed Null args h = refl
  note_kept allowed (Local name) args h = refl
  note_kept allowed (Global name) args h = other_note m2 name args (of_program allowed name h)

  counts_kept : (x : Instr) → AllFit m f (calls_profile x) (operands x) → counts_well m2 x ≡ true
  counts_kept (Binary into op flags ty left right) h = refl
  counts_kept (Compare into pred ty left right) h = refl
  counts_kept (Convert into op flags from value to) h = refl
  counts_kept (Freeze into ty value) h = refl
  counts_kept (Select into c ty first second prof) h = refl
  counts_kept (Phi into ty entries) h = refl
  counts_kept (Alloca into mem) h = refl
  counts_kept (Load into ty address) h = refl
  counts_kept (Store ty value address) h = refl
  counts_kept (Gep into inbounds mem address indices) h = refl
  counts_kept (Call into ret callee args prof) h = intrinsic_kept (names_profile callee) callee args (h (Ptr, callee) (inl refl))
  counts_kept (Count symbol size index step) h = refl

  counted_kept : (x : Instr) → AllFit m f (calls_profile x) (operands x) → is_counted_well m x ≡ true → is_counted_well m2 x ≡ true
  counted_kept (Binary into op flags ty left right) h e = refl
  counted_kept (Compare into pred ty left right) h e = refl
  counted_kept (Convert into op flags from value to) h e = refl
  counted_kept (Freeze into ty value) h e = refl
  counted_kept (Select into c ty first second prof) h e = refl
  counted_kept (Phi into ty entries) h e = refl
  counted_kept (Alloca into mem) h e = refl
  counted_kept (Load into ty address) h e = refl
  counted_kept (Store ty value address) h e = refl
  counted_kept (Gep into inbounds mem address indices) h e = refl
  counted_kept (Call into ret callee args prof) h e = note_kept (names_profile callee) callee args (h (Ptr, callee) (inl refl))
  counted_kept (Count symbol size index step) h e = absurd (not_both _ (and_parts _ _ e).0 takes.not_lowered)

  pub instr_in : (x : Instr) → InstrFormed m f x → InstrFormed m2 f2 x
  instr_in x h = record {
    named = h.named;
    fit = all_in (calls_profile x) (operands x) h.fit;
    typed = h.typed;
    calls = calls_kept x h.calls;
    weighed = h.weighed;
    counts = counts_kept x h.fit;
    counted = counted_kept x h.fit h.counted;
  }

-- ---- what a function that counts has of the one that it was

module _ (m m2 : Module) (takes : TakesOver m m2) (unit : FunctionPlan) (f : Function) where
  abbrev pub made : Function
  made = counted_function unit f

  result_listed : (xs : List Instr) (v : Name × Ret) → Among v (filter_map result_of xs) → (x : Instr) × Among x xs × (result_of x ≡ Some v)
  result_listed [] v at = absurd at
  result_listed (x ∷ xs) v at = by (result_of x) refl at (λ h. result_listed xs v h)
    where
      later : (y : Instr) × Among y xs × (result_of y ≡ Some v) → (y : Instr) × Among y (x ∷ xs) × (result_of y ≡ Some v)
      later (y, at, e) = (y, inr at, e)

      by : (o : Option (Name × Ret)) → result_of x ≡ o → Among v (cons_option o (filter_map result_of xs)) → (Among v (filter_map result_of xs) → (y : Instr) × Among y xs × (result_of y ≡ Some v)) → (y : Instr) × Among y (x ∷ xs) × (result_of y ≡ Some v)
      by None e h rest = later (rest h)
      by (Some w) e (inl q) rest = (x, inl refl, e ∙ ap Some (sym q))
      by (Some w) e (inr h) rest = later (rest h)

  pub listed_result : (xs : List Instr) (x : Instr) (v : Name × Ret) → Among x xs → result_of x ≡ Some v → Among v (filter_map result_of xs)
  listed_result [] x v at e = absurd at
  listed_result (y ∷ ys) x v (inl q) e = subst (λ (o : Option (Name × Ret)). Among v (cons_option o (filter_map result_of ys))) (sym (ap result_of (sym q) ∙ e)) (inl refl)
  listed_result (y ∷ ys) x v (inr at) e = by (result_of y) (listed_result ys x v at e)
    where
      by : (o : Option (Name × Ret)) → Among v (filter_map result_of ys) → Among v (cons_option o (filter_map result_of ys))
      by None h = h
      by (Some w) h = inr h

  -- a result in a block that counts is one of the function
  pub block_value : (j : ℕ) (b : Block) (x : Instr) (v : Name × Ret) → slice_get f.blocks j ≡ Some b → Among x (made_of unit f.blocks j b).instrs → result_of x ≡ Some v → Among v (values made)
  block_value j b x v at h e =
      among_right (map (λ p. (p.1, Value p.0)) f.params) (flat_map block_values (counted_blocks unit f.blocks)) v (among_flat block_values (counted_blocks unit f.blocks) (made_of unit f.blocks j b) v (old_among unit f.blocks j b at) (listed_result (made_of unit f.blocks j b).instrs x v h e))

  value_kept : (v : Name × Ret) → Among v (values f) → Among v (values made)
  value_kept v at = by (among_either (map (λ p. (p.1, Value p.0)) f.params) (flat_map block_values f.blocks) v at)
    where
      stays : (x y : Instr) (rs : List (Name × Name)) → (y ≡ x) ⊎ (y ≡ renamed_phi rs x) → result_of x ≡ Some v → result_of y ≡ Some v
      stays x y rs (inl e) q = ap result_of e ∙ q
      stays x y rs (inr e) q = ap result_of e ∙ same_result rs x ∙ q

      by : Among v (map (λ p. (p.1, Value p.0)) f.params) ⊎ Among v (flat_map block_values f.blocks) → Among v (values made)
      by (inl h) = among_left (map (λ p. (p.1, Value p.0)) f.params) (flat_map block_values (counted_blocks unit f.blocks)) v h
      by (inr h) =
          let r = flat_among block_values f.blocks v h in
          let x = result_listed r.0.instrs v r.2 in
          let spot = among_at f.blocks r.0 r.1 in
          let rs = renamings unit.blocks f.blocks r.0.label in
          let y = item_stays unit (plan_at unit f.blocks spot.0) rs r.0.instrs x.0 x.1 in
          block_value spot.0 r.0 y.0 v spot.1 y.1 (stays x.0 y.0 rs y.2 x.2)

  pub all_kept : (allowed : Bool) (us : List Use) → AllFit m f allowed us → AllFit m2 made allowed us
  all_kept allowed us h = all_in m m2 takes f made value_kept allowed us h

  pub instr_kept : (x : Instr) → InstrFormed m f x → InstrFormed m2 made x
  instr_kept x h = instr_in m m2 takes f made value_kept x h

-- ---- a phi with other entries

module _ (m : Module) (f : Function) where
  first_values : (ty : Ty) (a n : Name) (es : Entries) → ◌≡◌ {A = List Use} (map (λ e. (ty, e.0)) (rename_first a n es)) (map (λ e. (ty, e.0)) es)
  first_values ty a n [] = refl
  first_values ty a n (e ∷ es) = by (same a e.1) (first_values ty a n es)
    where
      by : (b : Bool) → ◌≡◌ {A = List Use} (map (λ d. (ty, d.0)) (rename_first a n es)) (map (λ d. (ty, d.0)) es) → ◌≡◌ {A = List Use} (map (λ d. (ty, d.0)) (cond b ((e.0, n) ∷ es) (e ∷ rename_first a n es))) (map (λ d. (ty, d.0)) (e ∷ es))
      by true rest = refl
      by false rest = ap (λ (us : List Use). (ty, e.0) ∷ us) rest

  same_values : (ty : Ty) (rs : List (Name × Name)) (es : Entries) → ◌≡◌ {A = List Use} (map (λ e. (ty, e.0)) (renamed rs es)) (map (λ e. (ty, e.0)) es)
  same_values ty [] es = refl
  same_values ty (r ∷ rs) es = same_values ty rs (rename_first r.0 r.1 es) ∙ first_values ty r.0 r.1 es

  pub phi_kept : (rs : List (Name × Name)) (x : Instr) → InstrFormed m f x → InstrFormed m f (renamed_phi rs x)
  phi_kept rs (Binary into op flags ty left right) h = h
  phi_kept rs (Compare into pred ty left right) h = h
  phi_kept rs (Convert into op flags from value to) h = h
  phi_kept rs (Freeze into ty value) h = h
  phi_kept rs (Select into c ty first second prof) h = h
  phi_kept rs (Phi into ty entries) h = record {
    named = h.named;
    fit = subst (λ (us : List Use). AllFit m f false us) (sym (same_values ty rs entries)) h.fit;
    typed = refl;
    calls = tt;
    weighed = refl;
    counts = refl;
    counted = refl;
  }
  phi_kept rs (Alloca into mem) h = h
  phi_kept rs (Load into ty address) h = h
  phi_kept rs (Store ty value address) h = h
  phi_kept rs (Gep into inbounds mem address indices) h = h
  phi_kept rs (Call into ret callee args prof) h = h
  phi_kept rs (Count symbol size index step) h = h
