-- The lowered module takes each step as the module does.
use Rattle.std.proofs.Common.{◌≡◌, ℕ, zero, suc, ◌+◌, arith, Bool, true, false, List, [], ◌∷◌, drop, map, take, Option, Some, None, refl, sym, ◌∙◌, ap, ap₂}
use Rattle.std.specs.Prelude.{cond, slice_get}
use Rattle.std.specs.Option.{option_and_then, option_map}
use Rattle.std.proofs.lemmas.List.{drop-map}
use Rattle.ir_memory.specs.declared.value.Value.{Value}
use Rattle.ir_model.specs.Deed.{Deed, Gives, Calls, Fails, Choice, Takes, Leaves, Breaks, choice, deed}
use Rattle.ir_model.specs.State.{Frame, Registers, Shared, State, Walked}
use Rattle.ir_model.specs.Step.{Step, acted, call_at, called, done, done_in, entered, fails, fits, goes_to, left, phi_value, sought, phis_in, step, stepped, taken, targeted, typed, value_of, walked, with_phis, with_typed}
use Rattle.ir_model.specs.Values.{function_at_address, functions_of}
use Rattle.ir_model.specs.declared.result.TrapKind.TheVariants as trap
use Rattle.ir_tree.specs.Blocks.{block_named}
use Rattle.ir_tree.specs.Functions.{function_at}
use Rattle.ir_tree.specs.Names.{same}
use Rattle.ir_tree.specs.Operands.{Entries, result_of}
use Rattle.ir_tree.specs.Phis.{behind_phis, entries_of, is_phi, leading_phis, phi_count, value_for}
use Rattle.ir_tree.specs.Successors.{successors}
use Rattle.ir_tree.specs.declared.types.Block.{Block}
use Rattle.ir_tree.specs.declared.types.Function.{Function}
use Rattle.ir_tree.specs.declared.types.Instr.{Instr}
use Rattle.ir_tree.specs.declared.types.Instr.TheVariants.{Binary, Compare, Convert, Freeze, Select, Phi, Alloca, Load, Store, Gep, Call, Count}
use Rattle.ir_tree.specs.declared.types.Module.{Module}
use Rattle.ir_tree.specs.declared.types.Operand.{Operand}
use Rattle.ir_tree.specs.declared.types.Operand.TheVariants.{Int, Null, Local, Global}
use Rattle.ir_tree.specs.declared.types.Ret.{Ret}
use Rattle.ir_tree.specs.declared.types.Term.{Term}
use Rattle.ir_tree.specs.declared.types.Ty.{Ty}
use Rattle.lowering.specs.Asked.{Asked, Rise, Note, asked}
use Rattle.lowering.specs.Lowered.{doing, lowered, lowered_block, lowered_function, lowered_instr}
use Rattle.lowering.proofs.Deeds.{deed_lowered}
use Rattle.lowering.proofs.Symbols.{as_many, function_same, symbol_same}

-- ---- phis stay, and nothing else becomes one

no_phi_by : (x : Instr) (o : Option Asked) → is_phi x ≡ false → is_phi (doing x o) ≡ false
no_phi_by x None e = e
no_phi_by x (Some (Rise symbol hash counters counter amount)) e = refl
no_phi_by x (Some (Note symbol hash target site)) e = refl

is_phi_same : (x : Instr) → is_phi (lowered_instr x) ≡ is_phi x
is_phi_same (Binary dest op flags ty left right) = refl
is_phi_same (Compare dest pred ty left right) = refl
is_phi_same (Convert dest op flags from value to) = refl
is_phi_same (Freeze dest ty value) = refl
is_phi_same (Select dest c ty first second prof) = refl
is_phi_same (Phi dest ty entries) = refl
is_phi_same (Alloca dest mem) = refl
is_phi_same (Load dest ty address) = refl
is_phi_same (Store ty value address) = refl
is_phi_same (Gep dest inbounds mem address indices) = refl
is_phi_same (Call dest ret callee args prof) = no_phi_by (Call dest ret callee args prof) (asked (Call dest ret callee args prof)) refl
is_phi_same (Count symbol size index step) = refl

-- a phi is as it was
phi_stays : (x : Instr) → is_phi x ≡ true → lowered_instr x ≡ x
phi_stays (Binary dest op flags ty left right) e = refl
phi_stays (Compare dest pred ty left right) e = refl
phi_stays (Convert dest op flags from value to) e = refl
phi_stays (Freeze dest ty value) e = refl
phi_stays (Select dest c ty first second prof) e = refl
phi_stays (Phi dest ty entries) e = refl
phi_stays (Alloca dest mem) e = refl
phi_stays (Load dest ty address) e = refl
phi_stays (Store ty value address) e = refl
phi_stays (Gep dest inbounds mem address indices) e = refl
phi_stays (Call dest ret callee args prof) e = absurd (cc)
phi_stays (Count symbol size index step) e = refl

phi_count_same : (is : List Instr) → phi_count (map lowered_instr is) ≡ phi_count is
phi_count_same [] = refl
phi_count_same (x ∷ is) = λ i. cond {A = ℕ} (is_phi_same x i) (1 + phi_count_same is i) 0

behind_same : (is : List Instr) → behind_phis (map lowered_instr is) ≡ map lowered_instr (behind_phis is)
behind_same is = ap (λ n. drop n (map lowered_instr is)) (phi_count_same is) ∙ drop-map lowered_instr (phi_count is) is

one_more : (k : ℕ) → 1 + k ≡ suc k
one_more k = omega arith

leading_same : (is : List Instr) → leading_phis (map lowered_instr is) ≡ leading_phis is
leading_same [] = refl
leading_same (x ∷ is) = by (is_phi x) refl (leading_same is)
  where
    by : (t : Bool) → is_phi x ≡ t → leading_phis (map lowered_instr is) ≡ leading_phis is → leading_phis (map lowered_instr (x ∷ is)) ≡ leading_phis (x ∷ is)
    by true e h =
        ap (λ t. take (cond {A = ℕ} t (1 + phi_count (map lowered_instr is)) 0) (lowered_instr x ∷ map lowered_instr is)) (is_phi_same x ∙ e)
        ∙ ap (λ k. take k (lowered_instr x ∷ map lowered_instr is)) (one_more (phi_count (map lowered_instr is)))
        ∙ ap₂ (λ (y : Instr) (ys : List Instr). y ∷ ys) (phi_stays x e) h
        ∙ sym (ap (λ k. take k (x ∷ is)) (one_more (phi_count is)))
        ∙ sym (ap (λ t. take (cond {A = ℕ} t (1 + phi_count is) 0) (x ∷ is)) e)
    by false e h =
        ap (λ t. take (cond {A = ℕ} t (1 + phi_count (map lowered_instr is)) 0) (lowered_instr x ∷ map lowered_instr is)) (is_phi_same x ∙ e)
        ∙ sym (ap (λ t. take (cond {A = ℕ} t (1 + phi_count is) 0) (x ∷ is)) e)

-- ---- blocks by label

named_same : (bs : List Block) (l : List ℕ) → block_named (map lowered_block bs) l ≡ option_map lowered_block (block_named bs l)
named_same [] l = refl
named_same (b ∷ bs) l = by (same l b.label) (named_same bs l)
  where
    by : (t : Bool) → block_named (map lowered_block bs) l ≡ option_map lowered_block (block_named bs l) →
        cond t (Some (lowered_block b)) (block_named (map lowered_block bs) l) ≡ option_map lowered_block (cond t (Some b) (block_named bs l))
    by true h = refl
    by false h = h

module _ (m : Module) where
  abbrev n : Module
  n = lowered m

  sought_in : (f : Option Function) (l : List ℕ) → option_and_then (λ (f : Function). block_named f.blocks l) (option_map lowered_function f) ≡ option_map lowered_block (option_and_then (λ (f : Function). block_named f.blocks l) f)
  sought_in None l = refl
  sought_in (Some f) l = named_same f.blocks l

  sought_same : (k : ℕ) (l : List ℕ) → sought n k l ≡ option_map lowered_block (sought m k l)
  sought_same k l = ap (λ o. option_and_then (λ (f : Function). block_named f.blocks l) o) (function_same m k) ∙ sought_in (function_at m k) l

  phis_lowered : (b : Option Block) → phis_in (option_map lowered_block b) ≡ phis_in b
  phis_lowered None = refl
  phis_lowered (Some b) = leading_same b.instrs

  -- ---- operands

  value_same : (rs : Registers) (o : Operand) → value_of n rs o ≡ value_of m rs o
  value_same rs (Int v) = refl
  value_same rs Null = refl
  value_same rs (Local x) = refl
  value_same rs (Global x) = symbol_same m x

  values_same : (rs : Registers) → value_of n rs ≡ value_of m rs
  values_same rs = λ i o. value_same rs o i

  phi_same : (rs : Registers) (from : List ℕ) (es : Option Entries) → phi_value n rs from es ≡ phi_value m rs from es
  phi_same rs from None = refl
  phi_same rs from (Some es) = by (value_for from es)
    where
      by : (o : Option Operand) → taken n rs o ≡ taken m rs o
      by None = refl
      by (Some o) = value_same rs o

  with_phis_same : (before : Registers) (from : List ℕ) (is : List Instr) (rs : Registers) → with_phis n before from is rs ≡ with_phis m before from is rs
  with_phis_same before from [] rs = refl
  with_phis_same before from (x ∷ is) rs =
      ap (λ v. with_phis n before from is (with_typed (typed (result_of x)) v rs)) (phi_same before from (entries_of x))
      ∙ with_phis_same before from is (with_typed (typed (result_of x)) (phi_value m before from (entries_of x)) rs)

  module _ (fr : Frame) (rest : List Frame) (shared : Shared) where
    -- ---- terminators

    walked_same : (position : ℕ) (to : Option (List ℕ)) → walked n fr rest shared position to ≡ walked m fr rest shared position to
    walked_same position None = refl
    walked_same position (Some to) =
        ap (λ (ps : List Instr). goes ps (with_phis n fr.registers fr.block ps fr.registers)) (ap phis_in (sought_same fr.function to) ∙ phis_lowered (sought m fr.function to))
        ∙ ap (goes (phis_in (sought m fr.function to))) (with_phis_same fr.registers fr.block (phis_in (sought m fr.function to)) fr.registers)
      where
        goes : List Instr → Registers → Step
        goes ps rs = goes_to (record fr { block = to; place = 0; registers = rs } ∷ rest) shared (Walked fr.function fr.block position ∷ [])

    left_same : (ss : List (List ℕ)) (c : Choice) → left n fr rest shared ss c ≡ left m fr rest shared ss c
    left_same ss (Takes position) = walked_same position (slice_get ss position)
    left_same ss (Leaves v) = refl
    left_same ss (Breaks kind) = refl

    -- ---- calls

    module _ (through : Bool) (into : Option (List ℕ × Ty)) (r : Ret) (values : List (Ty × Value)) where
      entered_same : (k : ℕ) (f : Function) (bs : List Block) → entered fr rest shared (targeted through fr k) into k (lowered_function f) values (map lowered_block bs) ≡ entered fr rest shared (targeted through fr k) into k f values bs
      entered_same k f [] = refl
      entered_same k f (b ∷ bs) = refl

      called_same : (k : ℕ) (f : Option Function) → called fr rest shared through into r values k (option_map lowered_function f) ≡ called fr rest shared through into r values k f
      called_same k None = refl
      called_same k (Some f) = by (fits r values f)
        where
          by : (t : Bool) → cond t (entered fr rest shared (targeted through fr k) into k (lowered_function f) values (map lowered_block f.blocks)) (fails trap.Callee) ≡ cond t (entered fr rest shared (targeted through fr k) into k f values f.blocks) (fails trap.Callee)
          by true = entered_same k f f.blocks
          by false = refl

      call_same : (k : Option ℕ) → call_at n fr rest shared through into r values k ≡ call_at m fr rest shared through into r values k
      call_same None = refl
      call_same (Some k) = ap (called fr rest shared through into r values k) (function_same m k) ∙ called_same k (function_at m k)

    -- ---- instructions

    acted_same : (d : Deed) → acted n fr rest shared d ≡ acted m fr rest shared d
    acted_same (Gives into v memory shown) = refl
    acted_same (Calls through into r address values) =
        ap (λ count. call_at n fr rest shared through into r values (function_at_address count address)) (as_many m)
        ∙ call_same through into r values (function_at_address (functions_of m) address)
    acted_same (Fails kind) = refl

    done_same : (is : List Instr) (t : Term) → done n fr rest shared (map lowered_instr is) t ≡ done m fr rest shared is t
    done_same [] t =
        ap (λ v. left n fr rest shared (successors t) (choice v t)) (values_same fr.registers)
        ∙ left_same (successors t) (choice (value_of m fr.registers) t)
    done_same (x ∷ is) t =
        ap₂ (λ (v : Operand → Value) (count : ℕ). acted n fr rest shared (deed v count shared.memory (lowered_instr x))) (values_same fr.registers) (as_many m)
        ∙ ap (acted n fr rest shared) (deed_lowered m fr.registers (functions_of m) shared.memory x)
        ∙ acted_same (deed (value_of m fr.registers) (functions_of m) shared.memory x)

    done_in_same : (b : Option Block) → done_in n fr rest shared (option_map lowered_block b) ≡ done_in m fr rest shared b
    done_in_same None = refl
    done_in_same (Some b) =
        ap (λ is. done n fr rest shared is b.term) (ap (drop fr.place) (behind_same b.instrs) ∙ drop-map lowered_instr fr.place (behind_phis b.instrs))
        ∙ done_same (drop fr.place (behind_phis b.instrs)) b.term

  stepped_same : (frames : List Frame) (shared : Shared) → stepped n frames shared ≡ stepped m frames shared
  stepped_same [] shared = refl
  stepped_same (fr ∷ rest) shared =
      ap (done_in n fr rest shared) (sought_same fr.function fr.block) ∙ done_in_same fr rest shared (sought m fr.function fr.block)

  pub step_same : (s : State) → step n s ≡ step m s
  step_same s = stepped_same s.frames s.shared
