-- The instructions that count: calls of the intrinsics of LLVM's instrumentation (LLVM Language Reference, "Instrumentation
-- intrinsics"), and the integers that two of them take.
use Rattle.std.specs.Prelude.{ℕ, false, cond, List, [], ◌∷◌, codes, Option, None, Some}
use Rattle.count_plan.specs.declared.plan.FunctionPlan.{FunctionPlan}
use Rattle.count_plan.specs.declared.plan.Watch.{Watch}
use Rattle.count_plan.specs.declared.plan.Watch.TheVariants.{Nothing, Condition, Target}
use Rattle.ir_tree.specs.Graphs.{is_local}
use Rattle.ir_tree.specs.Operands.{Use}
use Rattle.ir_tree.specs.declared.types.ConvOp.TheVariants.{ZExt, PtrToInt}
use Rattle.ir_tree.specs.declared.types.Flags.{Flags}
use Rattle.ir_tree.specs.declared.types.Instr.{Instr}
use Rattle.ir_tree.specs.declared.types.Instr.TheVariants.{Binary, Compare, Convert, Freeze, Select, Phi, Alloca, Load, Store, Gep, Call, Count}
use Rattle.ir_tree.specs.declared.types.Operand.{Operand}
use Rattle.ir_tree.specs.declared.types.Operand.TheVariants.{Int, Local, Global}
use Rattle.ir_tree.specs.declared.types.Ret.TheVariants.{Void}
use Rattle.ir_tree.specs.declared.types.Ty.TheVariants.{I1, I32, I64, Ptr}

-- the names of the intrinsics
unfoldable pub increment_name : List ℕ
increment_name = codes "llvm.instrprof.increment"

unfoldable pub step_name : List ℕ
step_name = codes "llvm.instrprof.increment.step"

unfoldable pub value_name : List ℕ
value_name = codes "llvm.instrprof.value.profile"

-- a call that returns nothing
abbrev pub intrinsic : List ℕ → List Use → Instr
intrinsic name args = Call None Void (Global name) args None

-- the name of the function's record and its hash, with which each of these calls begins
abbrev pub of_unit : FunctionPlan → List Use → List Use
of_unit unit args = (Ptr, Global unit.symbol) ∷ (I64, Int unit.hash) ∷ args

-- a counter rises by one
abbrev pub increment : FunctionPlan → ℕ → Instr
increment unit counter = intrinsic increment_name (of_unit unit ((I32, Int unit.counters) ∷ (I32, Int counter) ∷ []))

-- the same, where one stands there
abbrev pub increments : FunctionPlan → Option ℕ → List Instr
increments unit None = []
increments unit (Some counter) = increment unit counter ∷ []

-- a counter rises by what a register holds
abbrev pub increment_by : FunctionPlan → ℕ → List ℕ → Instr
increment_by unit counter register = intrinsic step_name (of_unit unit ((I32, Int unit.counters) ∷ (I32, Int counter) ∷ (I64, Local register) ∷ []))

-- what a register holds is noted as a target of calls, value kind 0
abbrev pub note_target : FunctionPlan → ℕ → List ℕ → Instr
note_target unit site register = intrinsic value_name (of_unit unit ((I64, Local register) ∷ (I32, Int 0) ∷ (I32, Int site) ∷ []))

abbrev pub no_flags : Flags
no_flags = record { nuw = false; nsw = false; exact = false }

-- ---- what is watched

-- the condition of a select, none of another instruction
abbrev pub condition_of : Instr → Option Operand
condition_of (Binary into op flags ty left right) = None
condition_of (Compare into pred ty left right) = None
condition_of (Convert into op flags from value to) = None
condition_of (Freeze into ty value) = None
condition_of (Select into c ty first second prof) = Some c
condition_of (Phi into ty entries) = None
condition_of (Alloca into mem) = None
condition_of (Load into ty address) = None
condition_of (Store ty value address) = None
condition_of (Gep into inbounds mem address indices) = None
condition_of (Call into ret callee values prof) = None
condition_of (Count symbol size index step) = None

-- the callee of a call through a register, none of another instruction
abbrev pub target_of : Instr → Option Operand
target_of (Binary into op flags ty left right) = None
target_of (Compare into pred ty left right) = None
target_of (Convert into op flags from value to) = None
target_of (Freeze into ty value) = None
target_of (Select into c ty first second prof) = None
target_of (Phi into ty entries) = None
target_of (Alloca into mem) = None
target_of (Load into ty address) = None
target_of (Store ty value address) = None
target_of (Gep into inbounds mem address indices) = None
target_of (Call into ret callee values prof) = cond (is_local callee) (Some callee) None
target_of (Count symbol size index step) = None

abbrev pub condition_watched : FunctionPlan → List ℕ → ℕ → Option Operand → List Instr
condition_watched unit register counter None = []
condition_watched unit register counter (Some c) = Convert register ZExt no_flags I1 c I64 ∷ increment_by unit counter register ∷ []

abbrev pub target_watched : FunctionPlan → List ℕ → ℕ → Option Operand → List Instr
target_watched unit register site None = []
target_watched unit register site (Some callee) = Convert register PtrToInt no_flags Ptr callee I64 ∷ note_target unit site register ∷ []

-- what stands before an instruction: nothing, too, where it is none that can be watched so
abbrev pub watched : FunctionPlan → Watch → Instr → List Instr
watched unit Nothing i = []
watched unit (Condition register counter) i = condition_watched unit register counter (condition_of i)
watched unit (Target register site) i = target_watched unit register site (target_of i)
