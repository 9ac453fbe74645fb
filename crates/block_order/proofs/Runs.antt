-- A step is the same whatever the order of blocks, and so is a run.
use Rattle.std.proofs.Common.{◌≡◌, ℕ, zero, suc, Bool, true, false, cond, not, List, [], ◌∷◌, ◌++◌, length, map, filter, position, option_and_then, Option, Some, None, slice_get, refl, sym, ◌∙◌, ap, arith, ◌==◌}
use Rattle.std.specs.Prelude.{◌&&◌, drop, nat_lt}
use Rattle.std.proofs.lemmas.Option.{none-some, same_Some}
use Rattle.ir_likeness.specs.Like.{signature_at, signature_of}
use Rattle.std.proofs.lemmas.Bool.{ne_eqb}
use Rattle.std.specs.Option.{option_map}
use Rattle.block_order.specs.Reordered.{AllReordered, AreReordered, IsReordered}
use Rattle.ir_memory.specs.declared.value.Value.{Value}
use Rattle.ir_memory.specs.declared.value.Value.TheVariants.{Int}
use Rattle.ir_model.specs.Deed.{Deed, Gives, Calls, Fails, Choice, Takes, Leaves, Breaks, choice, deed}
use Rattle.ir_model.specs.Initial.{global_objects, initial_memory}
use Rattle.ir_model.specs.Run.{begun, first_entered, run_of}
use Rattle.ir_model.specs.State.{Entered, Walked, Frame, Registers, Shared, State, arguments}
use Rattle.ir_model.specs.Step.{acted, call_at, called, declared, depth_most, done, done_in, entered, entering, fails, fits, fits_params, goes_to, left, phi_value, phis_in, same_ret, sought, step, stepped, taken, targeted, typed, value_of, waiting, walked, with_phis, with_typed}
use Rattle.ir_model.specs.Values.{functions_of, objects, symbol_pointer, symbol_value, function_at_address}
use Rattle.ir_model.specs.declared.result.Call.{Call}
use Rattle.ir_model.specs.declared.result.TrapKind.TheVariants as trap
use Rattle.ir_tree.specs.Blocks.{block_named}
use Rattle.ir_tree.specs.Functions.{function_at, is_profile_name, numbered}
use Rattle.ir_tree.specs.Names.{same}
use Rattle.ir_tree.specs.Phis.{behind_phis, entries_of, value_for}
use Rattle.ir_tree.specs.Operands.{Entries, result_of}
use Rattle.ir_tree.specs.Successors.{successors}
use Rattle.ir_tree.specs.declared.types.Block.{Block}
use Rattle.ir_tree.specs.declared.types.Function.{Function}
use Rattle.ir_tree.specs.declared.types.Global1.{Global1}
use Rattle.ir_tree.specs.declared.types.Instr.{Instr}
use Rattle.ir_tree.specs.declared.types.Module.{Module}
use Rattle.ir_tree.specs.declared.types.Operand.{Operand}
use Rattle.ir_tree.specs.declared.types.Operand.TheVariants as operand
use Rattle.ir_tree.specs.declared.types.Ret.{Ret}
use Rattle.ir_tree.specs.declared.types.Term.{Term}
use Rattle.ir_tree.specs.declared.types.Ty.{Ty}
use Rattle.spec_machines.specs.Machine.{go_on, run}

-- ---- functions by number

abbrev has_number : Function → Bool
has_number f = not (is_profile_name f.name)

filtered : (fs fs' : List Function) → AllReordered fs fs' → AllReordered (filter has_number fs) (filter has_number fs')
filtered [] [] all = tt
filtered [] (f' ∷ fs') all = absurd all
filtered (f ∷ fs) [] all = absurd all
filtered (f ∷ fs) (f' ∷ fs') all = by (has_number f) (has_number f') (ap (λ n. not (is_profile_name n)) all.0.name) (filtered fs fs' all.1)
  where
    by : (b b' : Bool) → b' ≡ b → AllReordered (filter has_number fs) (filter has_number fs') → AllReordered (cond b (f ∷ filter has_number fs) (filter has_number fs)) (cond b' (f' ∷ filter has_number fs') (filter has_number fs'))
    by true true e later = (all.0, later)
    by false false e later = later
    by true false e later = absurd (cc)
    by false true e later = absurd (cc)

abbrev Both : Option Function → Option Function → Type 0
Both None None = Unit {0}
Both None (Some f') = ⊥
Both (Some f) None = ⊥
Both (Some f) (Some f') = IsReordered f f'

both_at : (fs fs' : List Function) → AllReordered fs fs' → (k : ℕ) → Both (slice_get fs k) (slice_get fs' k)
both_at [] [] all k = tt
both_at [] (f' ∷ fs') all k = absurd all
both_at (f ∷ fs) [] all k = absurd all
both_at (f ∷ fs) (f' ∷ fs') all zero = all.0
both_at (f ∷ fs) (f' ∷ fs') all (suc k) = both_at fs fs' all.1 k

names_same : (fs fs' : List Function) → AllReordered fs fs' → map (λ (f : Function). f.name) fs' ≡ map (λ (f : Function). f.name) fs
names_same [] [] all = refl
names_same [] (f' ∷ fs') all = absurd all
names_same (f ∷ fs) [] all = absurd all
names_same (f ∷ fs) (f' ∷ fs') all = λ i. all.0.name i ∷ names_same fs fs' all.1 i

as_many : (fs fs' : List Function) → AllReordered fs fs' → length fs' ≡ length fs
as_many [] [] all = refl
as_many [] (f' ∷ fs') all = absurd all
as_many (f ∷ fs) [] all = absurd all
as_many (f ∷ fs) (f' ∷ fs') all = ap (λ k. suc k) (as_many fs fs' all.1)

module _ (m m' : Module) (same_blocks : AreReordered m m') where
  all_numbered : AllReordered (numbered m.functions) (numbered m'.functions)
  all_numbered = filtered m.functions m'.functions same_blocks.functions

  functions_same : functions_of m' ≡ functions_of m
  functions_same = as_many (numbered m.functions) (numbered m'.functions) all_numbered

  symbols_same : (x : List ℕ) → symbol_value m' x ≡ symbol_value m x
  symbols_same x = λ i. symbol_pointer (position (same x) (names_same (numbered m.functions) (numbered m'.functions) all_numbered i)) (position (same x) (map (λ (g : Global1). g.name) (objects (same_blocks.globals i))))

  memory_same : initial_memory m' ≡ initial_memory m
  memory_same = λ i. record { next = length (objects (same_blocks.globals i)); live = global_objects (λ x. symbols_same x i) 0 (objects (same_blocks.globals i)) }

  values_same : (rs : Registers) (o : Operand) → value_of m' rs o ≡ value_of m rs o
  values_same rs (operand.Int n) = refl
  values_same rs operand.Null = refl
  values_same rs (operand.Local x) = refl
  values_same rs (operand.Global x) = symbols_same x

  value_function : (rs : Registers) → value_of m' rs ≡ value_of m rs
  value_function rs = λ i o. values_same rs o i

  phi_same : (before : Registers) (from : List ℕ) (es : Option Entries) → phi_value m' before from es ≡ phi_value m before from es
  phi_same before from None = refl
  phi_same before from (Some es) = taken_same (value_for from es)
    where
      taken_same : (o : Option Operand) → taken m' before o ≡ taken m before o
      taken_same None = refl
      taken_same (Some v) = values_same before v

  phis_same : (before : Registers) (from : List ℕ) (is : List Instr) (rs : Registers) → with_phis m' before from is rs ≡ with_phis m before from is rs
  phis_same before from [] rs = refl
  phis_same before from (i ∷ is) rs =
      phis_same before from is (with_typed (typed (result_of i)) (phi_value m' before from (entries_of i)) rs)
      ∙ ap (λ v. with_phis m before from is (with_typed (typed (result_of i)) v rs)) (phi_same before from (entries_of i))

  block_same : (k : ℕ) (l : List ℕ) → sought m' k l ≡ sought m k l
  block_same k l = by (function_at m k) (function_at m' k) (both_at (numbered m.functions) (numbered m'.functions) all_numbered k)
    where
      by : (o o' : Option Function) → Both o o' → option_and_then (λ (f : Function). block_named f.blocks l) o' ≡ option_and_then (λ (f : Function). block_named f.blocks l) o
      by None None h = refl
      by None (Some f') h = absurd h
      by (Some f) None h = absurd h
      by (Some f) (Some f') h = h.named l

  -- ---- calls

  called_same : (fr : Frame) (rest : List Frame) (shared : Shared) (through : Bool) (into : Option (List ℕ × Ty)) (r : Ret) (values : List (Ty × Value)) (k : ℕ) (o o' : Option Function) → Both o o' → called fr rest shared through into r values k o' ≡ called fr rest shared through into r values k o
  called_same fr rest shared through into r values k None None h = refl
  called_same fr rest shared through into r values k None (Some f') h = absurd h
  called_same fr rest shared through into r values k (Some f) None h = absurd h
  called_same fr rest shared through into r values k (Some f) (Some f') h =
      (λ i. cond (same_ret (h.ret i) r && fits_params (h.params i) values) (entered fr rest shared (targeted through fr k) into k f' values f'.blocks) (fails trap.Callee))
      ∙ ap (λ e. cond (fits r values f) e (fails trap.Callee)) (by f'.blocks f.blocks h.first)
    where
      by : (bs' bs : List Block) → slice_get bs' 0 ≡ slice_get bs 0 → entered fr rest shared (targeted through fr k) into k f' values bs' ≡ entered fr rest shared (targeted through fr k) into k f values bs
      by [] [] e = ap (λ n. declared fr rest shared (targeted through fr k) n values) h.name
      by [] (b ∷ bs) e = absurd (none-some b e)
      by (b' ∷ bs') [] e = absurd (none-some b' (sym e))
      by (b' ∷ bs') (b ∷ bs) e =
          λ i. cond (nat_lt (length (fr ∷ rest)) depth_most)
          (goes_to
          (record { function = k; block = (same_Some b' b e i).label; place = 0; registers = arguments (h.params i) (map (λ v. v.1) values); base = shared.memory.next; into = into } ∷ waiting fr ∷ rest)
          shared (targeted through fr k ++ Entered k ∷ []))
          (fails trap.Depth)

  call_same : (fr : Frame) (rest : List Frame) (shared : Shared) (through : Bool) (into : Option (List ℕ × Ty)) (r : Ret) (values : List (Ty × Value)) (o : Option ℕ) → call_at m' fr rest shared through into r values o ≡ call_at m fr rest shared through into r values o
  call_same fr rest shared through into r values None = refl
  call_same fr rest shared through into r values (Some k) =
      called_same fr rest shared through into r values k (function_at m k) (function_at m' k) (both_at (numbered m.functions) (numbered m'.functions) all_numbered k)

  -- ---- steps

  acted_same : (fr : Frame) (rest : List Frame) (shared : Shared) (d : Deed) → acted m' fr rest shared d ≡ acted m fr rest shared d
  acted_same fr rest shared (Gives into v memory shown) = refl
  acted_same fr rest shared (Calls through into r address values) =
      ap (λ n. call_at m' fr rest shared through into r values (function_at_address n address)) functions_same
      ∙ call_same fr rest shared through into r values (function_at_address (functions_of m) address)
  acted_same fr rest shared (Fails kind) = refl

  walked_same : (fr : Frame) (rest : List Frame) (shared : Shared) (position : ℕ) (o : Option (List ℕ)) → walked m' fr rest shared position o ≡ walked m fr rest shared position o
  walked_same fr rest shared position None = refl
  walked_same fr rest shared position (Some to) =
      ap (λ b. goes_to (entering m' fr to (phis_in b) ∷ rest) shared (Walked fr.function fr.block position ∷ [])) (block_same fr.function to)
      ∙ ap (λ rs. goes_to (record fr { block = to; place = 0; registers = rs } ∷ rest) shared (Walked fr.function fr.block position ∷ [])) (phis_same fr.registers fr.block (phis_in (sought m fr.function to)) fr.registers)

  left_same : (fr : Frame) (rest : List Frame) (shared : Shared) (ss : List (List ℕ)) (c : Choice) → left m' fr rest shared ss c ≡ left m fr rest shared ss c
  left_same fr rest shared ss (Takes position) = walked_same fr rest shared position (slice_get ss position)
  left_same fr rest shared ss (Leaves v) = refl
  left_same fr rest shared ss (Breaks kind) = refl

  done_same : (fr : Frame) (rest : List Frame) (shared : Shared) (is : List Instr) (t : Term) → done m' fr rest shared is t ≡ done m fr rest shared is t
  done_same fr rest shared [] t =
      ap (λ v. left m' fr rest shared (successors t) (choice v t)) (value_function fr.registers) ∙ left_same fr rest shared (successors t) (choice (value_of m fr.registers) t)
  done_same fr rest shared (i ∷ is) t =
      (λ k. acted m' fr rest shared (deed (value_function fr.registers k) (functions_same k) shared.memory i))
      ∙ acted_same fr rest shared (deed (value_of m fr.registers) (functions_of m) shared.memory i)

  step_same : (s : State) → step m' s ≡ step m s
  step_same s = by s.frames
    where
      in_block : (fr : Frame) (rest : List Frame) (o : Option Block) → done_in m' fr rest s.shared o ≡ done_in m fr rest s.shared o
      in_block fr rest None = refl
      in_block fr rest (Some b) = done_same fr rest s.shared (drop fr.place (behind_phis b.instrs)) b.term

      by : (frames : List Frame) → stepped m' frames s.shared ≡ stepped m frames s.shared
      by [] = refl
      by (fr ∷ rest) = ap (done_in m' fr rest s.shared) (block_same fr.function fr.block) ∙ in_block fr rest (sought m fr.function fr.block)

  -- ---- runs

  begun_same : (k : ℕ) (values : List ℕ) (o o' : Option Function) → Both o o' → begun m' k values o' ≡ begun m k values o
  begun_same k values None None h = refl
  begun_same k values None (Some f') h = absurd h
  begun_same k values (Some f) None h = absurd h
  begun_same k values (Some f) (Some f') h = by f'.blocks f.blocks h.first
    where
      by : (bs' bs : List Block) → slice_get bs' 0 ≡ slice_get bs 0 → first_entered m' k values f' bs' ≡ first_entered m k values f bs
      by [] [] e = refl
      by [] (b ∷ bs) e = absurd (none-some b e)
      by (b' ∷ bs') [] e = absurd (none-some b' (sym e))
      by (b' ∷ bs') (b ∷ bs) e =
          λ i. goes_to
          (record { function = k; block = (same_Some b' b e i).label; place = 0; registers = arguments (h.params i) (map Int values); base = (memory_same i).next; into = None } ∷ [])
          (record { memory = memory_same i; output = 0 }) (Entered k ∷ [])

  pub run_same : (c : Call) (n : ℕ) → run_of m' c n ≡ run_of m c n
  run_same c n =
      λ i. go_on (begun_same c.function c.args (function_at m c.function) (function_at m' c.function) (both_at (numbered m.functions) (numbered m'.functions) all_numbered c.function) i) (run (λ s. step_same s i) n)

  -- ---- signatures

  pub signature_same : (k : ℕ) → signature_at m' k ≡ signature_at m k
  signature_same k = by (function_at m k) (function_at m' k) (both_at (numbered m.functions) (numbered m'.functions) all_numbered k)
    where
      none_in : (bs' bs : List Block) → slice_get bs' 0 ≡ slice_get bs 0 → (length bs' == 0) ≡ (length bs == 0)
      none_in [] [] e = refl
      none_in [] (b ∷ bs) e = absurd (none-some b e)
      none_in (b' ∷ bs') [] e = absurd (none-some b' (sym e))
      none_in (b' ∷ bs') (b ∷ bs) e = ne_eqb (length (b' ∷ bs')) 0 (omega arith) ∙ sym (ne_eqb (length (b ∷ bs)) 0 (omega arith))

      by : (o o' : Option Function) → Both o o' → option_map signature_of o' ≡ option_map signature_of o
      by None None h = refl
      by None (Some f') h = absurd h
      by (Some f) None h = absurd h
      by (Some f) (Some f') h =
          λ i. Some (record { name = h.name i; ret = h.ret i; params = map (λ p. p.0) (h.params i); declared = none_in f'.blocks f.blocks h.first i })
