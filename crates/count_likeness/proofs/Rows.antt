-- The instructions that are put in: each row of them is passed in as many steps, counts what it should, and assigns new registers
-- alone.
use Rattle.std.proofs.Common.{◌≡◌, ℕ, zero, suc, ◌+◌, ◌-◌, ◌<◌, ◌/◌, ◌%◌, ◌^◌, ◌==◌, Bool, true, false, cond, not, List, [], ◌∷◌, ◌++◌, length, map, drop, flat_map, Option, Some, None, slice_get, slice_index_or, refl, sym, ◌∙◌, ap, subst, arith, inl, inr, ◌⊎◌}
use Rattle.std.specs.Prelude.{nat_lt, ◌&&◌}
use Rattle.std.proofs.lemmas.Bool.{ltb-true}
use Rattle.std.proofs.lemmas.Option.{none-some, same_Some}
use Rattle.ir_memory.specs.declared.value.Value.{Value}
use Rattle.ir_memory.specs.declared.value.Value.TheVariants.{Int}
use Rattle.ir_memory.specs.Memory.{MemoryState}
use Rattle.ir_model.specs.Deed.{Gives, deed, note}
use Rattle.ir_model.specs.State.{Frame, Registers, Shared, What, Added, Shown, Did, held, printed}
use Rattle.ir_model.specs.Step.{acted, done, done_in, goes_to, past, sought, step, value_of}
use Rattle.ir_model.specs.Values.{as_number, function_at_address, functions_of, number_at}
use Rattle.ir_tree.specs.Functions.{is_profile_name}
use Rattle.ir_tree.specs.Names.{same}
use Rattle.ir_tree.specs.Operands.{listed}
use Rattle.ir_tree.specs.Phis.{behind_phis}
use Rattle.ir_tree.specs.declared.types.Block.{Block}
use Rattle.ir_tree.specs.declared.types.ConvOp.TheVariants.{ZExt, PtrToInt}
use Rattle.ir_tree.specs.declared.types.Instr.{Instr}
use Rattle.ir_tree.specs.declared.types.Instr.TheVariants.{Convert}
use Rattle.ir_tree.specs.declared.types.Module.{Module}
use Rattle.ir_tree.specs.declared.types.Operand.{Operand}
use Rattle.ir_tree.specs.declared.types.Ty.TheVariants.{I1, I64, Ptr}
use Rattle.ir_likeness.proofs.Frames.{state}
use Rattle.ir_likeness.proofs.Registers.{Agree, agree_new}
use Rattle.spec_machines.specs.Machine.{Goes, more_shown, then_go, many}
use Rattle.count_plan.specs.Calls.{increment, increment_by, increment_name, increments, no_flags, note_target, step_name, value_name}
use Rattle.count_plan.specs.Counted.{watch_at}
use Rattle.count_plan.specs.Ways.{block_plan, no_block_plan}
use Rattle.count_plan.specs.declared.plan.BlockPlan.{BlockPlan}
use Rattle.count_plan.specs.declared.plan.FunctionPlan.{FunctionPlan}
use Rattle.count_plan.specs.declared.plan.Watch.{Watch}
use Rattle.count_plan.specs.declared.plan.Watch.TheVariants.{Nothing}
use Rattle.count_likeness.specs.Fits.{IsOld, new_registers, register_of}
use Rattle.count_likeness.specs.Image.{risen}
use Rattle.count_likeness.proofs.Items.{Item, Mark, owned}
use Rattle.spec_items.proofs.Items.{Has, counted_some, get_dropped, has_left, has_right}
use Rattle.count_likeness.proofs.Renamed.{same_self}

-- what is looked at of counters that rise
abbrev pub marked : List ℕ → List ℕ → List Item
marked unit counters = map Mark (risen unit counters)

pub marked-append : (unit xs ys : List ℕ) → marked unit (xs ++ ys) ≡ marked unit xs ++ marked unit ys
marked-append unit [] ys = refl
marked-append unit (x ∷ xs) ys = ap (λ l. Mark (Added unit x 1) ∷ l) (marked-append unit xs ys)

-- ---- new registers

get_some : {X : Type 0} (xs : List X) (i : ℕ) (d : X) → (slice_get xs i ≡ Some (slice_index_or xs i d)) ⊎ (slice_index_or xs i d ≡ d)
get_some [] i d = inr refl
get_some (x ∷ xs) zero d = inl refl
get_some (x ∷ xs) (suc i) d = get_some xs i d

has_flat : {X Y : Type 0} (f : X → List Y) (xs : List X) (i : ℕ) (x : X) (y : Y) → slice_get xs i ≡ Some x → Has y (f x) → Has y (flat_map f xs)
has_flat f [] i x y e h = absurd (none-some x e)
has_flat f (z ∷ xs) zero x y e h = has_left y (f z) (flat_map f xs) (subst (λ (w : _). Has y (f w)) (sym (same_Some z x e)) h)
has_flat f (z ∷ xs) (suc i) x y e h = has_right y (f z) (flat_map f xs) (has_flat f xs i x y e h)

none_has : {X : Type 0} (x : X) → Has x [] → ⊥
none_has x h = none-some x h.1

-- the register of a watch is new
pub is_new : (unit : FunctionPlan) (j i : ℕ) (r : List ℕ) → Has r (register_of (watch_at (block_plan unit.blocks j) i)) → IsOld unit r → ⊥
is_new unit j i r has old =
    let some = counted_some (same r) (new_registers unit) r (in_plan (get_some unit.blocks j no_block_plan)) (same_self r) in
    absurd (omega (arith, some, old))
  where
    in_watches : (q : BlockPlan) → Has r (register_of (watch_at q i)) → (slice_get q.watches i ≡ Some (watch_at q i)) ⊎ (watch_at q i ≡ Nothing) → Has r (flat_map register_of q.watches)
    in_watches q h (inl e) = has_flat register_of q.watches i (watch_at q i) r e h
    in_watches q h (inr e) = absurd (none_has r (subst (λ (w : Watch). Has r (register_of w)) e h))

    in_plan : (slice_get unit.blocks j ≡ Some (block_plan unit.blocks j)) ⊎ (block_plan unit.blocks j ≡ no_block_plan) → Has r (new_registers unit)
    in_plan (inl e) = has_flat (λ (q : BlockPlan). flat_map register_of q.watches) unit.blocks j (block_plan unit.blocks j) r e
        (in_watches (block_plan unit.blocks j) has (get_some (block_plan unit.blocks j).watches i Nothing))
    in_plan (inr e) = absurd (none_has r (subst (λ (q : BlockPlan). Has r (register_of (watch_at q i))) e has))

-- ---- one instruction

module _ (n : Module) where
  gives_step : (F : Frame) (b : Block) (x : Instr) (later : List Instr) (into : Option (List ℕ)) (v : Value) (whats : List What) (rest : List Frame) (shared : Shared) → sought n F.function F.block ≡ Some b → drop F.place (behind_phis b.instrs) ≡ x ∷ later → deed (value_of n F.registers) (functions_of n) shared.memory x ≡ Gives into v shared.memory whats →
      step n (state (F ∷ rest) shared) ≡ goes_to (past F into v ∷ rest) shared (map (Did F.function F.block F.place) whats)
  gives_step F b x later into v whats rest shared found left e =
      ap (λ o. done_in n F rest shared o) found ∙ ap (λ is. done n F rest shared is b.term) left ∙ ap (λ d. acted n F rest shared d) e

  deed_increment : (unit : FunctionPlan) (c : ℕ) (rt : Registers) (memory : MemoryState) → deed (value_of n rt) (functions_of n) memory (increment unit c) ≡ Gives None (Int 0) memory (Added (drop 8 unit.symbol) c 1 ∷ [])
  unfolding increment_name is_profile_name
  deed_increment unit c rt memory = refl

  deed_increment_by : (unit : FunctionPlan) (c : ℕ) (r : List ℕ) (rt : Registers) (memory : MemoryState) → deed (value_of n rt) (functions_of n) memory (increment_by unit c r) ≡ Gives None (Int 0) memory (Added (drop 8 unit.symbol) c (number_at I64 (held rt r)) ∷ [])
  unfolding step_name is_profile_name
  deed_increment_by unit c r rt memory = refl

  deed_note : (unit : FunctionPlan) (s : ℕ) (r : List ℕ) (rt : Registers) (memory : MemoryState) → deed (value_of n rt) (functions_of n) memory (note_target unit s r) ≡ Gives None (Int 0) memory (note (drop 8 unit.symbol) s (function_at_address (functions_of n) (number_at I64 (held rt r))))
  unfolding value_name is_profile_name
  deed_note unit s r rt memory = refl

  held_new : (r : List ℕ) (v : Value) (rt : Registers) → held ((r, v) ∷ rt) r ≡ v
  held_new r v rt = ap (λ b. cond b v (held rt r)) (same_self r)

  -- ---- rows

  abbrev pub placed : Frame → ℕ → Registers → Frame
  placed F p rt = record F { place = p; registers = rt }

  -- from a frame in front of a row to one behind it: what is looked at on the way, nothing printed, and registers that agree
  -- with others on old names still do
  pub record Row (Old : List ℕ → Type 0) (F : Frame) (row : List Instr) (look : List Item) : Type 0 where
    pub registers : Registers
    pub shown : List Shown
    pub looks : owned shown ≡ look
    pub quiet : printed (shown ++ []) ≡ []
    pub keeps : (rs : Registers) → Agree Old rs F.registers → Agree Old rs registers
    pub goes : (rest : List Frame) (shared : Shared) → many (step n) (length row) (state (F ∷ rest) shared) ≡ Goes shown (state (placed F (F.place + length row) registers ∷ rest) shared)

  module _ (Old : List ℕ → Type 0) (F : Frame) (b : Block) (later : List Instr) (found : sought n F.function F.block ≡ Some b) where
    pub none_row : Row Old F [] []
    none_row = record {
      registers = F.registers;
      shown = [];
      looks = refl;
      quiet = refl;
      keeps = λ rs h. h;
      goes = λ rest shared. ap (λ p. Goes [] (state (placed F p F.registers ∷ rest) shared)) (let p = F.place in let e : p ≡ p + 0 = omega arith in e);
    }

    pub increments_row : (unit : FunctionPlan) (c : Option ℕ) → drop F.place (behind_phis b.instrs) ≡ increments unit c ++ later → Row Old F (increments unit c) (marked (drop 8 unit.symbol) (listed c))
    increments_row unit None left = none_row
    increments_row unit (Some c) left = record {
      registers = F.registers;
      shown = Did F.function F.block F.place (Added (drop 8 unit.symbol) c 1) ∷ [];
      looks = refl;
      quiet = refl;
      keeps = λ rs h. h;
      goes = λ rest shared. ap (λ y. then_go y (many (step n) 0)) (gives_step F b (increment unit c) later None (Int 0) (Added (drop 8 unit.symbol) c 1 ∷ []) rest shared found left (deed_increment unit c F.registers shared.memory));
    }

    -- two instructions, the first of which assigns a new register
    module _ (r : List ℕ) (new : Old r → ⊥) (v : Value) (x y : Instr) (whats : List What)
        (first : (memory : MemoryState) → deed (value_of n F.registers) (functions_of n) memory x ≡ Gives (Some r) v memory [])
        (second : (memory : MemoryState) → deed (value_of n ((r, v) ∷ F.registers)) (functions_of n) memory y ≡ Gives None (Int 0) memory whats)
        (left : drop F.place (behind_phis b.instrs) ≡ x ∷ (y ∷ later)) where
      between : Frame
      between = past F (Some r) v

      two_goes : (rest : List Frame) (shared : Shared) → many (step n) 2 (state (F ∷ rest) shared) ≡ Goes (map (Did F.function F.block (F.place + 1)) whats ++ []) (state (placed F (F.place + 2) ((r, v) ∷ F.registers) ∷ rest) shared)
      two_goes rest shared =
          let next = get_dropped F.place (behind_phis b.instrs) (y ∷ later) x left in
          ap (λ s. then_go s (many (step n) 1)) (gives_step F b x (y ∷ later) (Some r) v [] rest shared found left (first shared.memory))
          ∙ ap (λ s. more_shown [] (then_go s (many (step n) 0))) (gives_step (past F (Some r) v) b y later None (Int 0) whats rest shared found next.1 (second shared.memory))
          ∙ ap (λ p. Goes (map (Did F.function F.block (F.place + 1)) whats ++ []) (state (placed F p ((r, v) ∷ F.registers) ∷ rest) shared)) (let p = F.place in let e : p + 1 + 1 ≡ p + 2 = omega arith in e)

      pub two_row : (look : List Item) → owned (map (Did F.function F.block (F.place + 1)) whats ++ []) ≡ look → printed ((map (Did F.function F.block (F.place + 1)) whats ++ []) ++ []) ≡ [] → Row Old F (x ∷ y ∷ []) look
      two_row look looks quiet = record {
        registers = (r, v) ∷ F.registers;
        shown = map (Did F.function F.block (F.place + 1)) whats ++ [];
        looks = looks;
        quiet = quiet;
        keeps = λ rs h. agree_new Old r v rs F.registers new h;
        goes = two_goes;
      }

    -- the condition of a select
    pub condition_row : (unit : FunctionPlan) (r : List ℕ) (new : Old r → ⊥) (counter : ℕ) (c : Operand) → drop F.place (behind_phis b.instrs) ≡ Convert r ZExt no_flags I1 c I64 ∷ (increment_by unit counter r ∷ later) →
        Row Old F (Convert r ZExt no_flags I1 c I64 ∷ increment_by unit counter r ∷ []) (Mark (Added (drop 8 unit.symbol) counter (number_at I1 (value_of n F.registers c))) ∷ [])
    condition_row unit r new counter c left =
        let bit : ℕ = number_at I1 (value_of n F.registers c) in
        two_row r new (Int bit) (Convert r ZExt no_flags I1 c I64) (increment_by unit counter r) (Added (drop 8 unit.symbol) counter (number_at I64 (held ((r, Int bit) ∷ F.registers) r)) ∷ [])
        (λ memory. refl) (λ memory. deed_increment_by unit counter r ((r, Int bit) ∷ F.registers) memory) left
        (Mark (Added (drop 8 unit.symbol) counter bit) ∷ [])
        (ap (λ k. Mark (Added (drop 8 unit.symbol) counter k) ∷ []) (ap (number_at I64) (held_new r (Int bit) F.registers) ∙ small (as_number (value_of n F.registers c))))
        refl
      where
        small : (k : ℕ) → (k % 2 ^ 1) % 2 ^ 64 ≡ k % 2 ^ 1
        small k = omega arith

    -- the target of a call
    abbrev pub target_number : Operand → ℕ
    target_number callee = (as_number (value_of n F.registers callee) % 2 ^ 64) % 2 ^ 64

    pub target_row : (unit : FunctionPlan) (r : List ℕ) (new : Old r → ⊥) (site : ℕ) (callee : Operand) → drop F.place (behind_phis b.instrs) ≡ Convert r PtrToInt no_flags Ptr callee I64 ∷ (note_target unit site r ∷ later) →
        Row Old F (Convert r PtrToInt no_flags Ptr callee I64 ∷ note_target unit site r ∷ []) (map Mark (note (drop 8 unit.symbol) site (function_at_address (functions_of n) (target_number callee % 2 ^ 64))))
    target_row unit r new site callee left =
        let address : ℕ = target_number callee in
        let whats : List What = note (drop 8 unit.symbol) site (function_at_address (functions_of n) (number_at I64 (held ((r, Int address) ∷ F.registers) r))) in
        two_row r new (Int address) (Convert r PtrToInt no_flags Ptr callee I64) (note_target unit site r) whats
        (λ memory. refl) (λ memory. deed_note unit site r ((r, Int address) ∷ F.registers) memory) left
        (map Mark (note (drop 8 unit.symbol) site (function_at_address (functions_of n) (address % 2 ^ 64))))
        (noted (function_at_address (functions_of n) (number_at I64 (held ((r, Int address) ∷ F.registers) r))) ∙ ap (λ v. map Mark (note (drop 8 unit.symbol) site (function_at_address (functions_of n) (number_at I64 v)))) (held_new r (Int address) F.registers))
        (nothing_printed (function_at_address (functions_of n) (number_at I64 (held ((r, Int address) ∷ F.registers) r))))
      where
        noted : (o : Option ℕ) → owned (map (Did F.function F.block (F.place + 1)) (note (drop 8 unit.symbol) site o) ++ []) ≡ map Mark (note (drop 8 unit.symbol) site o)
        noted None = refl
        noted (Some k) = refl

        nothing_printed : (o : Option ℕ) → printed ((map (Did F.function F.block (F.place + 1)) (note (drop 8 unit.symbol) site o) ++ []) ++ []) ≡ []
        nothing_printed None = refl
        nothing_printed (Some k) = refl

-- ---- addresses

-- the address of a function, of so few, is a number of 64 bits
pub address_small : (count address k : ℕ) → count < 2 ^ 60 → function_at_address count address ≡ Some k → ((address % 2 ^ 64) % 2 ^ 64) % 2 ^ 64 ≡ address
address_small count address k few e = by (address % 16 == 0) (not (address == 0)) (nat_lt (address / 16) (count + 1)) refl e
  where
    by : (s t u : Bool) → nat_lt (address / 16) (count + 1) ≡ u → cond (s && t && u) (Some (address / 16 - 1)) None ≡ Some k → ((address % 2 ^ 64) % 2 ^ 64) % 2 ^ 64 ≡ address
    by true true true q h = (let less : address / 16 < count + 1 = ltb-true (address / 16) (count + 1) q in omega (arith, less, few))
    by true true false q h = absurd (none-some k h)
    by true false u q h = absurd (none-some k h)
    by false t u q h = absurd (none-some k h)
