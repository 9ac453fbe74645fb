-- The instructions that are put in are well formed, and the new names are names.
use Rattle.std.proofs.Common.{◌≡◌, ℕ, ◌+◌, ◌^◌, ◌⊎◌, inl, inr, Bool, true, false, ◌&&◌, nat_lt, nat_le, cond, List, [], ◌∷◌, Option, Some, None, slice_get, refl, sym, ap, subst, ◌∙◌, arith}
use Rattle.std.specs.List.{cons_option, filter_map}
use Rattle.std.proofs.lemmas.Bool.{and_from, and_parts, leb-true, lt-ltb, ltb-true, or_cases}
use Rattle.std.proofs.lemmas.Option.{none-some, same_Some}
use Rattle.count_plan.specs.Calls.{condition_of, condition_watched, increment, increment_by, increment_name, no_flags, note_target, step_name, target_of, target_watched, value_name, watched}
use Rattle.count_plan.specs.Counted.{new_blocks, watch_at}
use Rattle.count_plan.specs.Ways.{block_plan, renamings}
use Rattle.count_plan.specs.declared.plan.BlockPlan.{BlockPlan}
use Rattle.count_plan.specs.declared.plan.FunctionPlan.{FunctionPlan}
use Rattle.count_plan.specs.declared.plan.NewBlock.{NewBlock}
use Rattle.count_plan.specs.declared.plan.Watch.{Watch}
use Rattle.count_plan.specs.declared.plan.Watch.TheVariants.{Condition, Target}
use Rattle.counted_rules.proofs.Formed.{block_value, made}
use Rattle.counted_rules.proofs.Instrs.{Put, Head, Tail, Taken, Added, Cast, Noted, behind_among, behind_stays, watch_from}
use Rattle.counted_rules.proofs.Listed.{Name, among_left, among_map, among_right, at_among, at_each, map_among, same_is}
use Rattle.counted_rules.proofs.Ways.{IsWay, made_of, made_on, new_put, plan_at}
use Rattle.counted_rules.specs.Kept.{TakesOver}
use Rattle.counted_rules.specs.PlanFits.{CounterFits, IsCounter, IsUnit, PlanFits, WatchFits, put_names, step_signature, value_signature, watches_in}
use Rattle.ir_rules.specs.Declarations.{is_increment, is_increment_step, is_target_note, is_value_note}
use Rattle.ir_rules.specs.Existing.{calls_profile, names_profile}
use Rattle.ir_rules.specs.Intrinsics.{is_counter_total, names_unit}
use Rattle.ir_rules.specs.Kinds.{is_unit_name}
use Rattle.ir_rules.specs.Lists.{Among, is_among}
use Rattle.ir_rules.specs.Scopes.{function_names, signature, signatures, symbols, values, variables}
use Rattle.ir_rules.specs.WellFormed.{AllFit, Fits, InstrFormed}
use Rattle.ir_tree.specs.Blocks.{labels}
use Rattle.ir_tree.specs.Functions.{is_profile_name}
use Rattle.ir_tree.specs.Graphs.{is_local}
use Rattle.ir_tree.specs.Names.{same}
use Rattle.ir_tree.specs.Operands.{Use, operands, result_name, result_names}
use Rattle.ir_tree.specs.Phis.{behind_phis}
use Rattle.ir_tree.specs.Spelling.{is_local_name}
use Rattle.ir_tree.specs.Types.{is_integer_of}
use Rattle.ir_tree.specs.declared.types.Block.{Block}
use Rattle.ir_tree.specs.declared.types.ConvOp.TheVariants.{ZExt, PtrToInt}
use Rattle.ir_tree.specs.declared.types.Function.{Function}
use Rattle.ir_tree.specs.declared.types.Instr.{Instr}
use Rattle.ir_tree.specs.declared.types.Instr.TheVariants.{Binary, Compare, Convert, Freeze, Select, Phi, Alloca, Load, Store, Gep, Call, Count}
use Rattle.ir_tree.specs.declared.types.Module.{Module}
use Rattle.ir_tree.specs.declared.types.Operand.{Operand}
use Rattle.ir_tree.specs.declared.types.Operand.TheVariants.{Int, Null, Local, Global}
use Rattle.ir_tree.specs.declared.types.Ret.{Ret}
use Rattle.ir_tree.specs.declared.types.Ret.TheVariants.{Void, Value}
use Rattle.ir_tree.specs.declared.types.Ty.{Ty}
use Rattle.ir_tree.specs.declared.types.Ty.TheVariants.{I1, I32, I64, Ptr}

-- ---- the names of the intrinsics

increment_is : (is_increment increment_name ≡ true) × (is_profile_name increment_name ≡ true) × (is_target_note increment_name ≡ false)
unfolding is_increment is_profile_name is_target_note increment_name
increment_is = (refl, refl, refl)

step_is : (is_increment_step step_name ≡ true) × (is_profile_name step_name ≡ true) × (is_target_note step_name ≡ false)
unfolding is_increment_step is_profile_name is_target_note step_name
step_is = (refl, refl, refl)

value_is : (is_increment_step value_name ≡ false) × (is_value_note value_name ≡ true) × (is_profile_name value_name ≡ true) × (is_target_note value_name ≡ false)
unfolding is_increment_step is_value_note is_profile_name is_target_note value_name
value_is = (refl, refl, refl, refl)

among_is : (n : Name) (xs : List Name) → is_among n xs ≡ true → Among n xs
among_is n [] h = absurd (cc)
among_is n (x ∷ xs) h = by (or_cases (same n x) (is_among n xs) h) (λ k. among_is n xs k)
  where
    by : (same n x ≡ true) ⊎ (is_among n xs ≡ true) → (is_among n xs ≡ true → Among n xs) → Among n (x ∷ xs)
    by (inl k) rest = inl (same_is n x k)
    by (inr k) rest = inr (rest k)

listed_by : {X Y : Type 0} (h : X → Option Y) (xs : List X) (x : X) (y : Y) → Among x xs → h x ≡ Some y → Among y (filter_map h xs)
listed_by h [] x y at e = absurd at
listed_by {X} {Y} h (z ∷ zs) x y (inl q) e = subst (λ (o : Option Y). Among y (cons_option o (filter_map h zs))) (sym (ap h (sym q) ∙ e)) (inl refl)
listed_by {X} {Y} h (z ∷ zs) x y (inr at) e = by (h z) (listed_by h zs x y at e)
  where
    by : (o : Option Y) → Among y (filter_map h zs) → Among y (cons_option o (filter_map h zs))
    by None k = k
    by (Some w) k = inr k

-- ---- operands, one by one

module _ (m : Module) (f : Function) (allowed : Bool) where
  all_nil : AllFit m f allowed []
  all_nil u at = absurd at

  all_cons : (t : Ty) (o : Operand) (us : List Use) → Fits m f allowed t o → AllFit m f allowed us → AllFit m f allowed ((t, o) ∷ us)
  all_cons t o us h rest u (inl e) = subst (λ (w : Use). Fits m f allowed w.0 w.1) (sym e) h
  all_cons t o us h rest u (inr at) = rest u at

condition_use : (m : Module) (f : Function) (y : Instr) (o : Operand) → condition_of y ≡ Some o → AllFit m f (calls_profile y) (operands y) → Fits m f false I1 o
condition_use m f (Binary into op flags ty left right) o e h = absurd (none-some o e)
condition_use m f (Compare into pred ty left right) o e h = absurd (none-some o e)
condition_use m f (Convert into op flags from value to) o e h = absurd (none-some o e)
condition_use m f (Freeze into ty value) o e h = absurd (none-some o e)
condition_use m f (Select into c ty first second prof) o e h = subst (λ (w : Operand). Fits m f false I1 w) (same_Some c o e) (h (I1, c) (inl refl))
condition_use m f (Phi into ty entries) o e h = absurd (none-some o e)
condition_use m f (Alloca into mem) o e h = absurd (none-some o e)
condition_use m f (Load into ty address) o e h = absurd (none-some o e)
condition_use m f (Store ty value address) o e h = absurd (none-some o e)
condition_use m f (Gep into inbounds mem address indices) o e h = absurd (none-some o e)
condition_use m f (Call into ret callee args prof) o e h = absurd (none-some o e)
condition_use m f (Count symbol size index step) o e h = absurd (none-some o e)

local_use : (m : Module) (f : Function) (callee o : Operand) → cond (is_local callee) (Some callee) None ≡ Some o → Fits m f (names_profile callee) Ptr callee → Fits m f false Ptr o
local_use m f (Int value) o e h = absurd (none-some o e)
local_use m f Null o e h = absurd (none-some o e)
local_use m f (Local name) o e h = subst (λ (w : Operand). Fits m f false Ptr w) (same_Some (Local name) o e) h
local_use m f (Global name) o e h = absurd (none-some o e)

target_use : (m : Module) (f : Function) (y : Instr) (o : Operand) → target_of y ≡ Some o → AllFit m f (calls_profile y) (operands y) → Fits m f false Ptr o
target_use m f (Binary into op flags ty left right) o e h = absurd (none-some o e)
target_use m f (Compare into pred ty left right) o e h = absurd (none-some o e)
target_use m f (Convert into op flags from value to) o e h = absurd (none-some o e)
target_use m f (Freeze into ty value) o e h = absurd (none-some o e)
target_use m f (Select into c ty first second prof) o e h = absurd (none-some o e)
target_use m f (Phi into ty entries) o e h = absurd (none-some o e)
target_use m f (Alloca into mem) o e h = absurd (none-some o e)
target_use m f (Load into ty address) o e h = absurd (none-some o e)
target_use m f (Store ty value address) o e h = absurd (none-some o e)
target_use m f (Gep into inbounds mem address indices) o e h = absurd (none-some o e)
target_use m f (Call into ret callee args prof) o e h = local_use m f callee o e (h (Ptr, callee) (inl refl))
target_use m f (Count symbol size index step) o e h = absurd (none-some o e)

-- ---- the instructions

module _ (m m2 : Module) (takes : TakesOver m m2) (unit : FunctionPlan) (f : Function) (fits : PlanFits m2 unit f) where
  abbrev counting : Function
  counting = made m m2 takes unit f

  signed : (n : Name) (r : Ret) (ts : List Ty) → Among (n, r, ts) (signatures m2) → Among n (symbols m2)
  signed n r ts at =
      let g = map_among signature m2.functions (n, r, ts) at in
      among_right (variables m2) (function_names m2) n (subst (λ (k : Name). Among k (function_names m2)) (sym (ap (λ (s : Name × Ret × List Ty). s.0) g.2)) (among_map (λ (h : Function). h.name) m2.functions g.0 g.1))

  total_fits : is_counter_total unit.counters ≡ true → is_integer_of I32 unit.counters ≡ true
  unfolding is_counter_total
  total_fits h =
      let most = leb-true unit.counters 1048576 (and_parts (nat_le 1 unit.counters) (nat_le unit.counters 1048576) h).1 in
      lt-ltb unit.counters (2 ^ 32) (omega (arith, most))

  of_unit_fit : IsUnit m2 unit → (us : List Use) → AllFit m2 counting true us → AllFit m2 counting true ((Ptr, Global unit.symbol) ∷ (I64, Int unit.hash) ∷ us)
  of_unit_fit is us h =
      all_cons m2 counting true Ptr (Global unit.symbol) ((I64, Int unit.hash) ∷ us) (refl, unit_stands, refl) (all_cons m2 counting true I64 (Int unit.hash) us is.hash h)
    where
      unit_stands : Among unit.symbol (symbols m2)
      unit_stands = among_left (variables m2) (function_names m2) unit.symbol (among_is unit.symbol (variables m2) (and_parts (is_unit_name unit.symbol) (is_among unit.symbol (variables m2)) is.known).1)

  called : (n : Name) (us : List Use) → is_profile_name n ≡ true → Among n (symbols m2) → AllFit m2 counting true us → AllFit m2 counting (is_profile_name n) ((Ptr, Global n) ∷ us)
  called n us of at h = subst (λ (b : Bool). AllFit m2 counting b ((Ptr, Global n) ∷ us)) (sym of) (all_cons m2 counting true Ptr (Global n) us (refl, at, refl) h)

  counter_place : (c : ℕ) → IsCounter m2 unit c → (names_unit m2 (Global unit.symbol) && (true && (is_counter_total unit.counters && true))) ≡ true
  counter_place c h = and_from (names_unit m2 (Global unit.symbol)) (true && (is_counter_total unit.counters && true)) h.of_unit.known (and_from true (is_counter_total unit.counters && true) refl (and_from (is_counter_total unit.counters) true h.total refl))

  increment_formed : (c : ℕ) → CounterFits m2 unit c → InstrFormed m2 counting (increment unit c)
  increment_formed c h = record {
    named = refl;
    fit = called increment_name ((Ptr, Global unit.symbol) ∷ (I64, Int unit.hash) ∷ (I32, Int unit.counters) ∷ (I32, Int c) ∷ []) increment_is.1 (signed increment_name Void (Ptr ∷ I64 ∷ I32 ∷ I32 ∷ []) h.1) (of_unit_fit h.0.of_unit ((I32, Int unit.counters) ∷ (I32, Int c) ∷ []) (all_cons m2 counting true I32 (Int unit.counters) ((I32, Int c) ∷ []) (total_fits h.0.total) (all_cons m2 counting true I32 (Int c) [] h.0.number (all_nil m2 counting true))));
    typed = refl;
    calls = (refl, h.1);
    weighed = refl;
    counts = rw increment_is.0 (counter_place c h.0);
    counted = rw increment_is.2 refl;
  }

  module _ (j : ℕ) (b : Block) (at : slice_get f.blocks j ≡ Some b) where
    abbrev plan : BlockPlan
    plan = plan_at unit f.blocks j

    -- what watches an instruction stands in the block, and its register is a new name
    module _ (k : ℕ) (y x : Instr) (r : Name) (here : slice_get (behind_phis b.instrs) k ≡ Some y) (stands : Among x (watched unit (watch_at plan k) y)) where
      in_block : Among x (made_of unit f.blocks j b).instrs
      in_block = behind_stays unit plan (renamings unit.blocks f.blocks b.label) b.instrs x (watch_from unit plan 0 (behind_phis b.instrs) k y x here (subst (λ (n : ℕ). Among x (watched unit (watch_at plan n) y)) (let e : k ≡ 0 + k = omega arith in e) stands))

      is_new : result_name x ≡ Some r → is_local_name r ≡ true
      is_new e =
          let put : Among r (put_names unit plan b) = among_left (result_names (watches_in unit plan b)) (labels (new_blocks unit plan b)) r (listed_by result_name (watches_in unit plan b) x r (at_each (λ i z. watched unit (watch_at plan i) z) (behind_phis b.instrs) k y x here stands) e) in
          fits.named r (at_each (λ i c. put_names unit (block_plan unit.blocks i) c) f.blocks j b r at put)

    module _ (formed : (y : Instr) → Among y b.instrs → InstrFormed m2 counting y) where
      module _ (k : ℕ) (y : Instr) (r : Name) (o : Operand) (here : slice_get (behind_phis b.instrs) k ≡ Some y) where
        read : AllFit m2 counting (calls_profile y) (operands y)
        read = (formed y (behind_among b.instrs y (at_among (behind_phis b.instrs) k y here))).fit

        module _ (c : ℕ) (is : watch_at plan k ≡ Condition r c) (e : condition_of y ≡ Some o) where
          condition_stands : Among (Convert r ZExt no_flags I1 o I64) (watched unit (watch_at plan k) y)
          condition_stands = subst (λ (w : Watch). Among (Convert r ZExt no_flags I1 o I64) (watched unit w y)) (sym is) (subst (λ (q : Option Operand). Among (Convert r ZExt no_flags I1 o I64) (condition_watched unit r c q)) (sym e) (inl refl))

          taken_formed : InstrFormed m2 counting (Convert r ZExt no_flags I1 o I64)
          taken_formed = record {
            named = is_new k y (Convert r ZExt no_flags I1 o I64) r here condition_stands refl;
            fit = all_cons m2 counting false I1 o [] (condition_use m2 counting y o e read) (all_nil m2 counting false);
            typed = refl;
            calls = tt;
            weighed = refl;
            counts = refl;
            counted = refl;
          }

          watch_fits : IsCounter m2 unit c × Among step_signature (signatures m2)
          watch_fits = subst (λ (w : Watch). WatchFits m2 unit w) is (fits.watch j k b y at here)

          register_known : Among (r, Value I64) (values counting)
          register_known = block_value m m2 takes unit f j b (Convert r ZExt no_flags I1 o I64) (r, Value I64) at (in_block k y (Convert r ZExt no_flags I1 o I64) r here condition_stands) refl

          added_formed : InstrFormed m2 counting (increment_by unit c r)
          added_formed = record {
            named = refl;
            fit = called step_name ((Ptr, Global unit.symbol) ∷ (I64, Int unit.hash) ∷ (I32, Int unit.counters) ∷ (I32, Int c) ∷ (I64, Local r) ∷ []) step_is.1 (signed step_name Void (Ptr ∷ I64 ∷ I32 ∷ I32 ∷ I64 ∷ []) watch_fits.1) (of_unit_fit watch_fits.0.of_unit ((I32, Int unit.counters) ∷ (I32, Int c) ∷ (I64, Local r) ∷ []) (all_cons m2 counting true I32 (Int unit.counters) ((I32, Int c) ∷ (I64, Local r) ∷ []) (total_fits watch_fits.0.total) (all_cons m2 counting true I32 (Int c) ((I64, Local r) ∷ []) watch_fits.0.number (all_cons m2 counting true I64 (Local r) [] register_known (all_nil m2 counting true)))));
            typed = refl;
            calls = (refl, watch_fits.1);
            weighed = refl;
            counts = rw step_is.0 (counter_place c watch_fits.0);
            counted = rw step_is.2 refl;
          }

        module _ (s : ℕ) (is : watch_at plan k ≡ Target r s) (e : target_of y ≡ Some o) where
          target_stands : Among (Convert r PtrToInt no_flags Ptr o I64) (watched unit (watch_at plan k) y)
          target_stands = subst (λ (w : Watch). Among (Convert r PtrToInt no_flags Ptr o I64) (watched unit w y)) (sym is) (subst (λ (q : Option Operand). Among (Convert r PtrToInt no_flags Ptr o I64) (target_watched unit r s q)) (sym e) (inl refl))

          cast_formed : InstrFormed m2 counting (Convert r PtrToInt no_flags Ptr o I64)
          cast_formed = record {
            named = is_new k y (Convert r PtrToInt no_flags Ptr o I64) r here target_stands refl;
            fit = all_cons m2 counting false Ptr o [] (target_use m2 counting y o e read) (all_nil m2 counting false);
            typed = refl;
            calls = tt;
            weighed = refl;
            counts = refl;
            counted = refl;
          }

          site_fits : IsUnit m2 unit × (nat_lt s 65536 ≡ true) × Among value_signature (signatures m2)
          site_fits = subst (λ (w : Watch). WatchFits m2 unit w) is (fits.watch j k b y at here)

          target_known : Among (r, Value I64) (values counting)
          target_known = block_value m m2 takes unit f j b (Convert r PtrToInt no_flags Ptr o I64) (r, Value I64) at (in_block k y (Convert r PtrToInt no_flags Ptr o I64) r here target_stands) refl

          small : is_integer_of I32 s ≡ true
          small = (let few = ltb-true s 65536 site_fits.1 in lt-ltb s (2 ^ 32) (omega (arith, few)))

          noted_formed : InstrFormed m2 counting (note_target unit s r)
          noted_formed = record {
            named = refl;
            fit = called value_name ((Ptr, Global unit.symbol) ∷ (I64, Int unit.hash) ∷ (I64, Local r) ∷ (I32, Int 0) ∷ (I32, Int s) ∷ []) value_is.2 (signed value_name Void (Ptr ∷ I64 ∷ I64 ∷ I32 ∷ I32 ∷ []) site_fits.2) (of_unit_fit site_fits.0 ((I64, Local r) ∷ (I32, Int 0) ∷ (I32, Int s) ∷ []) (all_cons m2 counting true I64 (Local r) ((I32, Int 0) ∷ (I32, Int s) ∷ []) target_known (all_cons m2 counting true I32 (Int 0) ((I32, Int s) ∷ []) refl (all_cons m2 counting true I32 (Int s) [] small (all_nil m2 counting true)))));
            typed = refl;
            calls = (refl, site_fits.2);
            weighed = refl;
            counts = rw value_is.0 (rw value_is.1 (and_from (names_unit m2 (Global unit.symbol)) (nat_lt s 65536) site_fits.0.known site_fits.1));
            counted = rw value_is.3 refl;
          }

      pub put_formed : (x : Instr) → Put unit plan (behind_phis b.instrs) x → InstrFormed m2 counting x
      put_formed x (Head c h e) = subst (λ (z : Instr). InstrFormed m2 counting z) (sym e) (increment_formed c (fits.head j c b at h))
      put_formed x (Tail c h e) = subst (λ (z : Instr). InstrFormed m2 counting z) (sym e) (increment_formed c (fits.tail j c b at h))
      put_formed x (Taken k y r c o here is q e) = subst (λ (z : Instr). InstrFormed m2 counting z) (sym e) (taken_formed k y r o here c is q)
      put_formed x (Added k y r c o here is q e) = subst (λ (z : Instr). InstrFormed m2 counting z) (sym e) (added_formed k y r o here c is q)
      put_formed x (Cast k y r s o here is q e) = subst (λ (z : Instr). InstrFormed m2 counting z) (sym e) (cast_formed k y r o here s is q)
      put_formed x (Noted k y r s o here is q e) = subst (λ (z : Instr). InstrFormed m2 counting z) (sym e) (noted_formed k y r o here s is q)

    -- ---- new blocks

    module _ (p : ℕ) (to : Name) (new : NewBlock) (way : IsWay unit f.blocks j b p to new) where
      pub label_named : is_local_name new.label ≡ true
      label_named =
          let put : Among new.label (put_names unit plan b) = among_right (result_names (watches_in unit plan b)) (labels (new_blocks unit plan b)) new.label (among_map (λ (q : Block). q.label) (new_blocks unit plan b) (made_on unit f.blocks new to) (new_put unit f.blocks j b p to new way)) in
          fits.named new.label (at_each (λ i c. put_names unit (block_plan unit.blocks i) c) f.blocks j b new.label at put)

      pub edge_formed : (c : ℕ) → new.counter ≡ Some c → InstrFormed m2 counting (increment unit c)
      edge_formed c h = increment_formed c (fits.edge j p c b to new at way.leads way.is_new h)
