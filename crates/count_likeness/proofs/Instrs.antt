-- A step by an instruction, in both modules.
use Rattle.std.proofs.Common.{◌≡◌, ℕ, ◌+◌, Bool, true, false, cond, List, [], ◌∷◌, ◌++◌, length, map, drop, Option, Some, None, slice_get, refl, sym, ◌∙◌, ap, subst, arith}
use Rattle.std.specs.Prelude.{codes, nat_le, max}
use Rattle.std.proofs.lemmas.List.{append-nil}
use Rattle.ir_memory.specs.Memory.{MemoryState, live_cells, loaded, stored}
use Rattle.ir_memory.specs.declared.error.MemError.{MemError}
use Rattle.ir_memory.specs.declared.value.Value.{Value}
use Rattle.ir_value.specs.Operators.{binary_of}
use Rattle.ir_value.specs.declared.operators.DivTrap.{DivTrap}
use Rattle.ir_value.specs.declared.operators.DivTrap.TheVariants as division
use Rattle.std.specs.Prelude.{Result, Ok, Err}
use Rattle.ir_model.specs.Deed.{Deed, Gives, Calls, Fails, cells_most, computed, deed, note, operator, profile_shown, profiled, read_as, wrote, call}
use Rattle.ir_model.specs.Sizes.{bytes_of, size_of}
use Rattle.ir_model.specs.State.{Frame, Registers, Shared, What, Added, Noted, Chose, Shown, Did, Printed, printed}
use Rattle.ir_model.specs.Step.{Step, acted, call_at, done, done_in, past, resumed, step, targeted, value_of, waiting}
use Rattle.ir_model.specs.Values.{at_type, base_of, bits_of, function_at_address, functions_of, number_at, offset_of}
use Rattle.ir_tree.specs.Functions.{is_profile_name, function_at}
use Rattle.ir_tree.specs.Names.{same}
use Rattle.ir_tree.specs.Operands.{Use, operands}
use Rattle.ir_tree.specs.Phis.{behind_phis}
use Rattle.ir_tree.specs.Types.{is_pointer_type}
use Rattle.ir_tree.specs.declared.types.Instr.{Instr}
use Rattle.ir_tree.specs.declared.types.Instr.TheVariants.{Binary, Compare, Convert, Freeze, Select, Phi, Alloca, Load, Store, Gep, Call, Count}
use Rattle.ir_tree.specs.declared.types.Module.{Module}
use Rattle.ir_tree.specs.declared.types.Operand.{Operand}
use Rattle.ir_tree.specs.declared.types.Operand.TheVariants.{Int, Null, Local, Global}
use Rattle.ir_tree.specs.declared.types.Ret.{Ret}
use Rattle.ir_tree.specs.declared.types.Ty.{Ty}
use Rattle.ir_likeness.proofs.Agree.{deed_same}
use Rattle.ir_likeness.proofs.Frames.{Twin, arrive_both, at_once, by_many, call_found, state}
use Rattle.ir_likeness.proofs.Registers.{Agree, agree_result, agree_typed, values_same}
use Rattle.spec_machines.specs.Simulation.{Matched}
use Rattle.count_plan.specs.Calls.{condition_of, condition_watched, target_of, target_watched, watched}
use Rattle.count_plan.specs.Counted.{counted_from, watch_at}
use Rattle.count_plan.specs.declared.plan.FunctionPlan.{FunctionPlan}
use Rattle.count_plan.specs.declared.plan.Watch.{Watch}
use Rattle.count_plan.specs.declared.plan.Watch.TheVariants.{Nothing, Condition, Target}
use Rattle.count_likeness.proofs.Setting.{Setting}
use Rattle.count_likeness.specs.Fits.{InstrFits, IsOld}
use Rattle.count_likeness.proofs.Items.{Item, Mark, Byte, Owes, imaged, owned}
use Rattle.spec_items.proofs.Items.{drop_row, get_dropped}
use Rattle.count_likeness.proofs.Modules.{as_many, symbols_same}
use Rattle.count_likeness.proofs.Rows.{Row, none_row}
use Rattle.count_likeness.proofs.Simulation.{Behind, Kept, Left, Spot, Stands, Together, bases, fits_block, found, imaged_view, made, made_block, made_there, owned_view, plan_of, trap_together, traps_owed, twin, unit_of}
use Rattle.count_likeness.proofs.Values.{all_old}

-- ---- instructions that are not watched

-- no condition of a select is shown
abbrev pub NoChoice : List What → Type 0
NoChoice [] = Unit {0}
NoChoice (Added unit counter amount ∷ ws) = NoChoice ws
NoChoice (Noted unit site callee ∷ ws) = NoChoice ws
NoChoice (Chose v ∷ ws) = ⊥

-- nothing is shown that the image renames
abbrev pub IsPlainDeed : Deed → Type 0
IsPlainDeed (Gives into v memory whats) = NoChoice whats
IsPlainDeed (Calls through into r address values) = through ≡ false
IsPlainDeed (Fails kind) = Unit {0}

-- neither a select nor a call through a register
abbrev pub IsPlain : Instr → Type 0
IsPlain (Binary into op flags ty left right) = Unit {0}
IsPlain (Compare into pred ty left right) = Unit {0}
IsPlain (Convert into op flags from value to) = Unit {0}
IsPlain (Freeze into ty value) = Unit {0}
IsPlain (Select into c ty first second prof) = ⊥
IsPlain (Phi into ty entries) = Unit {0}
IsPlain (Alloca into mem) = Unit {0}
IsPlain (Load into ty address) = Unit {0}
IsPlain (Store ty value address) = Unit {0}
IsPlain (Gep into inbounds mem address indices) = Unit {0}
IsPlain (Call into ret (Int v) values prof) = Unit {0}
IsPlain (Call into ret Null values prof) = Unit {0}
IsPlain (Call into ret (Local r) values prof) = ⊥
IsPlain (Call into ret (Global g) values prof) = Unit {0}
IsPlain (Count symbol size index step) = Unit {0}

computed_plain : (into : Option (List ℕ)) (memory : MemoryState) (r : Result ℕ DivTrap) → IsPlainDeed (computed into memory r)
computed_plain into memory (Ok n) = tt
computed_plain into memory (Err division.DivZero) = tt
computed_plain into memory (Err division.DivOverflow) = tt

read_plain : (into : Option (List ℕ)) (memory : MemoryState) (ty : Ty) (r : Result Value MemError) → IsPlainDeed (read_as into memory ty r)
read_plain into memory ty (Ok v) = tt
read_plain into memory ty (Err e) = tt

wrote_plain : (r : Result MemoryState MemError) → IsPlainDeed (wrote r)
wrote_plain (Ok memory) = tt
wrote_plain (Err e) = tt

cond_plain : (b : Bool) (x y : Deed) → IsPlainDeed x → IsPlainDeed y → IsPlainDeed (cond b x y)
cond_plain true x y p q = p
cond_plain false x y p q = q

note_plain : (unit : List ℕ) (site : ℕ) (o : Option ℕ) → NoChoice (note unit site o)
note_plain unit site None = tt
note_plain unit site (Some k) = tt

profiled_cond : (memory : MemoryState) (b : Bool) (x y : Option (List What)) → IsPlainDeed (profiled memory x) → IsPlainDeed (profiled memory y) → IsPlainDeed (profiled memory (cond b x y))
profiled_cond memory true x y p q = p
profiled_cond memory false x y p q = q

module _ (val : Operand → Value) (count : ℕ) (memory : MemoryState) where
  profile_plain : (name : List ℕ) (args : List Use) → IsPlainDeed (profiled memory (profile_shown val count name args))
  profile_plain name [] = tt
  profile_plain name (a ∷ []) = tt
  profile_plain name (a ∷ b ∷ []) = tt
  profile_plain name (target ∷ unit ∷ site ∷ []) = profiled_cond memory (same (codes "__llvm_profile_instrument_target") name) _ None (note_plain _ _ _) tt
  profile_plain name (unit ∷ hash ∷ counters ∷ index ∷ []) = profiled_cond memory (same (codes "llvm.instrprof.increment") name) _ None tt tt
  profile_plain name (unit ∷ second ∷ third ∷ fourth ∷ fifth ∷ []) =
      profiled_cond memory (same (codes "llvm.instrprof.increment.step") name) _ _ tt
      (profiled_cond memory (same (codes "llvm.instrprof.value.profile") name) _ None (note_plain _ _ _) tt)
  profile_plain name (a ∷ b ∷ c ∷ d ∷ e ∷ f ∷ more) = tt

  call_plain : (into : Option (List ℕ)) (r : Ret) (g : List ℕ) (args : List Use) (b : Bool) → IsPlainDeed (call val count memory into r (Global g) args (cond b (Some g) None))
  call_plain into r g args true = profile_plain g args
  call_plain into r g args false = refl

  deed_plain : (x : Instr) → IsPlain x → IsPlainDeed (deed val count memory x)
  deed_plain (Binary into o flags ty left right) p = computed_plain (Some into) memory (binary_of (operator o) (bits_of ty) (number_at ty (val left)) (number_at ty (val right)))
  deed_plain (Compare into pred ty left right) p = tt
  deed_plain (Convert into o flags from value to) p = tt
  deed_plain (Freeze into ty value) p = tt
  deed_plain (Select into c ty first second prof) p = absurd p
  deed_plain (Phi into ty entries) p = tt
  deed_plain (Alloca into mem) p = cond_plain (nat_le (live_cells memory.live + max 1 (size_of mem)) cells_most) _ _ tt tt
  deed_plain (Load into ty address) p = read_plain (Some into) memory ty (loaded memory (base_of (val address)) (offset_of (val address)) (bytes_of ty) (is_pointer_type ty))
  deed_plain (Store ty value address) p = wrote_plain (stored memory (base_of (val address)) (offset_of (val address)) (bytes_of ty) (at_type ty (val value)))
  deed_plain (Gep into inbounds mem address indices) p = tt
  deed_plain (Call into r (Int v) args prof) p = refl
  deed_plain (Call into r Null args prof) p = refl
  deed_plain (Call into r (Local y) args prof) p = absurd p
  deed_plain (Call into r (Global g) args prof) p = call_plain into r g args (is_profile_name g)
  deed_plain (Count symbol size index step) p = tt

-- nothing stands before them
plain_row : (unit : FunctionPlan) (w : Watch) (x : Instr) → IsPlain x → watched unit w x ≡ []
plain_row unit Nothing x p = refl
plain_row unit (Condition register counter) x p = ap (condition_watched unit register counter) (none x p)
  where
    none : (x : Instr) → IsPlain x → condition_of x ≡ None
    none (Select into c ty first second prof) p = absurd p
    none x p = refl
plain_row unit (Target register site) x p = ap (target_watched unit register site) (none x p)
  where
    none : (x : Instr) → IsPlain x → target_of x ≡ None
    none (Call into r (Local y) args prof) p = absurd p
    none x p = refl

module _ (setting : Setting) where
  open setting use {plan, image, most, late, m, fit}

  -- ---- what a deed shows in both

  module _ (fr : Frame) (p : ℕ) (rt : Registers) (x : Option (List ℕ × Ty)) (look : List Item) where
    -- what is looked at of a deed is what was shown before it, and what it shows itself
    abbrev pub Looks : Deed → Type 0
    Looks (Gives into v memory whats) = imaged image (map (Did fr.function fr.block fr.place) whats) ≡ look ++ owned (map (Did fr.function fr.block p) whats)
    Looks (Calls through into r address values) = (j : ℕ) → function_at_address (functions_of m) address ≡ Some j → imaged image (targeted through fr j) ≡ look ++ owned (targeted through (twin setting fr p rt x) j)
    Looks (Fails kind) = Unit {0}

  no_choice_looks : (k : ℕ) (l : List ℕ) (i p : ℕ) (whats : List What) → NoChoice whats → imaged image (map (Did k l i) whats) ≡ owned (map (Did k l p) whats)
  no_choice_looks k l i p [] none = refl
  no_choice_looks k l i p (Added unit counter amount ∷ ws) none = ap (λ r. Mark (Added unit counter amount) ∷ r) (no_choice_looks k l i p ws none)
  no_choice_looks k l i p (Noted unit site callee ∷ ws) none = ap (λ r. Mark (Noted unit site callee) ∷ r) (no_choice_looks k l i p ws none)
  no_choice_looks k l i p (Chose v ∷ ws) none = absurd none

  plain_looks : (fr : Frame) (p : ℕ) (rt : Registers) (x : Option (List ℕ × Ty)) (d : Deed) → IsPlainDeed d → Looks fr p rt x [] d
  plain_looks fr p rt x (Gives into v memory whats) plain = no_choice_looks fr.function fr.block fr.place p whats plain
  plain_looks fr p rt x (Calls true into r address values) plain = absurd (cc)
  plain_looks fr p rt x (Calls false into r address values) plain = λ j e. refl
  plain_looks fr p rt x (Fails kind) plain = tt

  -- ---- the step by a deed

  text_seen : (text : List ℕ) → imaged image (map Printed text) ≡ owned (map Printed text)
  text_seen [] = refl
  text_seen (b ∷ bs) = ap (λ r. Byte b ∷ r) (text_seen bs)

  module _ (fr : Frame) (s : Spot setting fr.function fr.block) (p : ℕ) (rt : Registers) (x : Option (List ℕ × Ty)) (rest rest' : List Frame) (shared : Shared)
      (behind : Left setting s (fr.place + 1) (p + 1)) (agree : Agree (IsOld (unit_of setting s)) fr.registers rt)
      (below : Behind setting fr.into x rest rest') (twins : (k : ℕ) → Twin (imaged image) owned (Owes image) (owned_view setting) m (made setting) (Stands setting) (bases setting) 1 k (function_at m k) (function_at (made setting) k))
      (front : List Shown) (look : List Item) (looks : owned front ≡ look) (quiet : printed (front ++ []) ≡ []) where
    abbrev ft : Frame
    ft = twin setting fr p rt x

    abbrev n : Module
    n = made setting

    past_stands : (into : Option (List ℕ)) (v : Value) → Stands setting (past fr into v) (past ft into v)
    past_stands into v = record {
      spot = s;
      same = refl;
      rest = behind;
      agree = agree_result (IsOld (unit_of setting s)) into v fr.registers rt agree;
    }

    resumed_stands : (into : Option (List ℕ × Ty)) (v : Option Value) → Stands setting (resumed (waiting fr) into v) (resumed (waiting ft) into v)
    resumed_stands into None = record { spot = s; same = refl; rest = behind; agree = agree }
    resumed_stands into (Some v) = record { spot = s; same = refl; rest = behind; agree = agree_typed (IsOld (unit_of setting s)) into v fr.registers rt agree }

    acted_both : (d : Deed) → Looks fr p rt x look d → Together setting 1 (acted m fr rest shared d) front (acted n ft rest' shared d)
    acted_both (Gives into v memory whats) h =
        arrive_both (imaged image) owned (Owes image) (owned_view setting) m n (Stands setting) (bases setting)
        1 [] (past fr into v) (past ft into v) rest rest' (record shared { memory = memory }) (record shared { memory = memory }) front (map (Did fr.function fr.block fr.place) whats) (map (Did fr.function fr.block p) whats) refl
        (h ∙ ap (λ l. l ++ owned (map (Did fr.function fr.block p) whats)) (sym looks) ∙ ap (λ l. owned front ++ l) (sym (append-nil (owned (map (Did fr.function fr.block p) whats)))))
        (at_once (imaged image) owned (Owes image) (owned_view setting) m n (Stands setting) (bases setting) 1 (past fr into v) (past ft into v) (past_stands into v)) below
    acted_both (Calls through into r address values) h =
        subst (λ (k : ℕ). Together setting 1 (call_at m fr rest shared through into r values (function_at_address (functions_of m) address)) front (call_at n ft rest' shared through into r values (function_at_address k address))) (sym (as_many setting))
        (call_found (imaged image) owned (Owes image) (owned_view setting) m n (Stands setting) (bases setting)
        (imaged_view setting) text_seen 1 (omega arith) fr ft rest rest' shared front (traps_owed setting front quiet) through into into
        (λ v. at_once (imaged image) owned (Owes image) (owned_view setting) m n (Stands setting) (bases setting) 1 (resumed (waiting fr) into v) (resumed (waiting ft) into v) (resumed_stands into v))
        below (function_at_address (functions_of m) address)
        (λ k e. h k e ∙ ap (λ l. l ++ owned (targeted through ft k)) (sym looks)) twins r values)
    acted_both (Fails kind) h = trap_together setting 1 front quiet kind

  -- ---- the row before an instruction, and the instruction

  module _ (fr : Frame) (s : Spot setting fr.function fr.block) (p : ℕ) (rt : Registers) (x : Option (List ℕ × Ty)) (rest rest' : List Frame) (shared : Shared)
      (ahead : Left setting s fr.place p) (agree : Agree (IsOld (unit_of setting s)) fr.registers rt)
      (below : Behind setting fr.into x rest rest') (twins : (k : ℕ) → Twin (imaged image) owned (Owes image) (owned_view setting) m (made setting) (Stands setting) (bases setting) 1 k (function_at m k) (function_at (made setting) k))
      (y : Instr) (ys : List Instr) (e : drop fr.place (behind_phis s.block.instrs) ≡ y ∷ ys) where
    abbrev pub made_m : Module
    made_m = made setting

    abbrev pub unit : FunctionPlan
    unit = unit_of setting s

    abbrev pub watch : Watch
    watch = watch_at (plan_of setting s) fr.place

    abbrev pub row : List Instr
    row = watched unit watch y

    abbrev pub later : List Instr
    later = counted_from unit (plan_of setting s) (fr.place + 1) ys

    abbrev pub did : Deed
    did = deed (value_of m fr.registers) (functions_of m) shared.memory y

    abbrev pub IsMatched : Type 0
    IsMatched = Matched (imaged image) owned (Owes image) (step made_m) most (Kept setting) (step m (state (fr ∷ rest) shared)) (state (twin setting fr p rt x ∷ rest') shared)

    pub here : (slice_get (behind_phis s.block.instrs) fr.place ≡ Some y) × (drop (fr.place + 1) (behind_phis s.block.instrs) ≡ ys)
    here = get_dropped fr.place (behind_phis s.block.instrs) ys y e

    pub in_front : drop p (behind_phis (made_block setting s).instrs) ≡ row ++ (y ∷ later)
    in_front = ahead ∙ ap (counted_from unit (plan_of setting s) fr.place) e

    pub fits_here : InstrFits (functions_of m) fr.function unit image most (plan_of setting s) s.block.label fr.place y
    fits_here = (fits_block setting s).instr fr.place y here.0

    abbrev pub RowTo : List Item → Type 0
    RowTo look = Row made_m (IsOld unit) (twin setting fr p rt x) row look

    pub by_row : (look : List Item) (r : RowTo look) → Looks fr (p + length row) r.registers x look did → IsMatched
    by_row look r looks =
        by_many (imaged image) owned (Owes image) (owned_view setting) m made_m (Stands setting) (bases setting)
        most (length row) 1 (step m (state (fr ∷ rest) shared)) (state (twin setting fr p rt x ∷ rest') shared) (state (twin setting fr (p + length row) r.registers x ∷ rest') shared) r.shown
        fits_here.cost (r.goes rest' shared)
        (subst (λ (a : Step). Together setting 1 a r.shown (step made_m (state (twin setting fr (p + length row) r.registers x ∷ rest') shared))) (sym first_step)
        (subst (λ (a : Step). Together setting 1 (acted m fr rest shared did) r.shown a) (sym second_step)
        (acted_both fr s (p + length row) r.registers x rest rest' shared behind (r.keeps fr.registers agree) below twins r.shown look r.looks r.quiet did looks)))
      where
        after : drop (p + length row) (behind_phis (made_block setting s).instrs) ≡ y ∷ later
        after = drop_row p (behind_phis (made_block setting s).instrs) row (y ∷ later) in_front

        behind : Left setting s (fr.place + 1) (p + length row + 1)
        behind = (get_dropped (p + length row) (behind_phis (made_block setting s).instrs) later y after).1 ∙ ap (counted_from unit (plan_of setting s) (fr.place + 1)) (sym here.1)

        same_deed : deed (value_of made_m r.registers) (functions_of made_m) shared.memory y ≡ did
        same_deed =
            ap (λ (k : ℕ). deed (value_of made_m r.registers) k shared.memory y) (as_many setting)
            ∙ sym (deed_same (value_of m fr.registers) (value_of made_m r.registers) (functions_of m) shared.memory y
            (values_same (IsOld unit) m made_m (symbols_same setting) fr.registers r.registers (r.keeps fr.registers agree) (operands y) (all_old unit (operands y) fits_here.reads)))

        first_step : step m (state (fr ∷ rest) shared) ≡ acted m fr rest shared did
        first_step = ap (done_in m fr rest shared) (found setting s) ∙ ap (λ is. done m fr rest shared is s.block.term) e

        second_step : step made_m (state (twin setting fr (p + length row) r.registers x ∷ rest') shared) ≡ acted made_m (twin setting fr (p + length row) r.registers x) rest' shared did
        second_step =
            ap (done_in made_m (twin setting fr (p + length row) r.registers x) rest' shared) (made_there setting s)
            ∙ ap (λ is. done made_m (twin setting fr (p + length row) r.registers x) rest' shared is (made_block setting s).term) after
            ∙ ap (acted made_m (twin setting fr (p + length row) r.registers x) rest' shared) same_deed

    pub no_row : row ≡ [] → RowTo []
    no_row none = subst (λ (xs : List Instr). Row made_m (IsOld unit) (twin setting fr p rt x) xs []) (sym none)
        (none_row made_m (IsOld unit) (twin setting fr p rt x) (made_block setting s) later (made_there setting s))

    pub plain_matched : IsPlain y → IsMatched
    plain_matched plain =
        let r = no_row (plain_row unit watch y plain) in
        by_row [] r (plain_looks fr (p + length row) r.registers x did (deed_plain (value_of m fr.registers) (functions_of m) shared.memory y plain))
