-- What a call of an intrinsic of LLVM's instrumentation asks for (LLVM Language Reference, "Instrumentation intrinsics").
use Rattle.std.specs.Prelude.{ℕ, if◌then◌else◌, List, [], ◌∷◌, filter_map, flat_map, Option, None, Some}
use Rattle.std.specs.Option.{option_and_then, option_map}
use Rattle.count_plan.specs.Calls.{increment_name, step_name, value_name}
use Rattle.ir_tree.specs.Names.{same}
use Rattle.ir_tree.specs.Operands.{Use, symbol_of}
use Rattle.ir_tree.specs.declared.types.Block.{Block}
use Rattle.ir_tree.specs.declared.types.Function.{Function}
use Rattle.ir_tree.specs.declared.types.Instr.{Instr}
use Rattle.ir_tree.specs.declared.types.Instr.TheVariants.{Binary, Compare, Convert, Freeze, Select, Phi, Alloca, Load, Store, Gep, Call, Count}
use Rattle.ir_tree.specs.declared.types.Module.{Module}
use Rattle.ir_tree.specs.declared.types.Operand.{Operand}
use Rattle.ir_tree.specs.declared.types.Operand.TheVariants.{Int, Null, Local, Global}

-- A counter of a unit rises by an amount, or a value is noted as the target of a call at a site of the unit. Each names the global with
-- the unit's name and the hash of the unit's function, a rise the number of the unit's counters too.
pub data Asked : Type 0 where
  Rise : (symbol : List ℕ) (hash counters counter : ℕ) (amount : Operand) → Asked
  Note : (symbol : List ℕ) (hash : ℕ) (target : Operand) (site : ℕ) → Asked

abbrev pub symbol_asked : Asked → List ℕ
symbol_asked (Rise symbol hash counters counter amount) = symbol
symbol_asked (Note symbol hash target site) = symbol

abbrev pub hash_asked : Asked → ℕ
hash_asked (Rise symbol hash counters counter amount) = hash
hash_asked (Note symbol hash target site) = hash

-- ---- the arguments

abbrev pub literal : Operand → Option ℕ
literal (Int value) = Some value
literal Null = None
literal (Local name) = None
literal (Global name) = None

abbrev pub rise : Operand → Operand → Operand → Operand → Operand → Option Asked
rise unit hash counters counter amount =
    option_and_then (λ s. option_and_then (λ h. option_and_then (λ n. option_map (λ c. Rise s h n c amount) (literal counter)) (literal counters)) (literal hash)) (symbol_of unit)

abbrev pub note : Operand → Operand → Operand → Operand → Option Asked
note unit hash target site =
    option_and_then (λ s. option_and_then (λ h. option_map (λ j. Note s h target j) (literal site)) (literal hash)) (symbol_of unit)

-- A plain increment is by one. Calls with other arguments than the intrinsics take ask for nothing, and no accepted module has one
abbrev pub asked_by : List ℕ → List Use → Option Asked
asked_by name [] = None
asked_by name (a ∷ []) = None
asked_by name (a ∷ b ∷ []) = None
asked_by name (a ∷ b ∷ c ∷ []) = None
asked_by name (unit ∷ hash ∷ counters ∷ counter ∷ []) =
    if same increment_name name then rise unit.1 hash.1 counters.1 counter.1 (Int 1) else None
asked_by name (unit ∷ second ∷ third ∷ fourth ∷ fifth ∷ []) =
    if same step_name name then rise unit.1 second.1 third.1 fourth.1 fifth.1
    else if same value_name name then note unit.1 second.1 third.1 fifth.1
    else None
asked_by name (a ∷ b ∷ c ∷ d ∷ e ∷ f ∷ more) = None

-- ---- instructions, in text order

abbrev pub asked : Instr → Option Asked
asked (Binary dest op flags ty left right) = None
asked (Compare dest pred ty left right) = None
asked (Convert dest op flags from value to) = None
asked (Freeze dest ty value) = None
asked (Select dest cond ty first second prof) = None
asked (Phi dest ty entries) = None
asked (Alloca dest mem) = None
asked (Load dest ty address) = None
asked (Store ty value address) = None
asked (Gep dest inbounds mem address indices) = None
asked (Call dest ret callee args prof) = option_and_then (λ name. asked_by name args) (symbol_of callee)
asked (Count symbol size index step) = None

abbrev pub asked_in : List Block → List Asked
asked_in blocks = flat_map (λ b. filter_map asked b.instrs) blocks

abbrev pub asked_by_all : List Function → List Asked
asked_by_all functions = flat_map (λ (f : Function). asked_in f.blocks) functions

abbrev pub all_asked : Module → List Asked
all_asked m = asked_by_all m.functions
