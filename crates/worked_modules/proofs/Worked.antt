-- Modules at work, further ones than beside the definitions: phis, addresses, calls of other functions, counting, limits. Values
-- are computed by hand from the LLVM Language Reference.
use Rattle.std.proofs.Common.{◌≡◌, ℕ, List, [], ◌∷◌, Some, None, false, refl}
use Rattle.std.specs.Prelude.{codes, replicate, Option, ◌^◌, ◌-◌}
use Rattle.std.specs.Fmt.{digits}
use Rattle.ir_tree.specs.Functions.{print_name, is_profile_name}
use Rattle.ir_tree.specs.declared.types.Ty.TheVariants.{I1, I8, I16, I32, I64, Ptr}
use Rattle.ir_tree.specs.declared.types.Ret.TheVariants as ret
use Rattle.ir_tree.specs.declared.types.BinOp.TheVariants as binary
use Rattle.ir_tree.specs.declared.types.ConvOp.TheVariants as conversions
use Rattle.ir_tree.specs.declared.types.MemTy.TheVariants.{Scalar, Array}
use Rattle.ir_tree.specs.declared.types.MemTy.TheBlock.{shape-the_row-MemTy-0, hidden-the_row-MemTy-0}
use Rattle.ir_tree.specs.declared.types.Operand.{Operand}
use Rattle.ir_tree.specs.declared.types.Operand.TheVariants.{Int, Local, Global}
use Rattle.ir_tree.specs.declared.types.Instr.{Instr}
use Rattle.ir_tree.specs.declared.types.Instr.TheVariants.{Binary, Convert, Freeze, Phi, Alloca, Gep, Call, Count}
use Rattle.ir_tree.specs.declared.types.Term.{Term}
use Rattle.ir_tree.specs.declared.types.Function.{Function}
use Rattle.ir_tree.specs.declared.types.Module.{Module}
use Rattle.ir_tree.specs.declared.types.Term.TheVariants.{Br, CondBr, Ret}
use Rattle.ir_tree.specs.Blocks.{block_with}
use Rattle.ir_model.specs.declared.result.End.TheVariants.{Returned, Trapped}
use Rattle.ir_model.specs.declared.result.TrapKind.{TrapKind}
use Rattle.ir_model.specs.declared.result.TrapKind.TheVariants as trap
use Rattle.spec_machines.specs.Machine.{Goes, Stops}
use Rattle.ir_model.specs.Run.{run_of, result_of, marks_of}
use Rattle.ir_model.specs.State.{Frame, State, What, Added, Noted, Returns, Traps}
use Rattle.ir_model.specs.Step.{Step, step}
use denote.Hole.Carrier
use Rattle.ir_model.specs.Examples.{no_flags, returning, function_of, ends, ends_in, module_of}

-- phis read all values before one is written: the two exchange their values on the way around, and the loop is left by a
-- condition of 1
abbrev exchange : List Instr
exchange =
    Phi (codes "a") I64 ((Int 1, codes "entry") ∷ (Local (codes "b"), codes "loop") ∷ [])
    ∷ Phi (codes "b") I64 ((Int 2, codes "entry") ∷ (Local (codes "a"), codes "loop") ∷ [])
    ∷ Phi (codes "c") I1 ((Int 0, codes "entry") ∷ (Int 1, codes "loop") ∷ []) ∷ []

pub phis_exchange : ends (module_of [] (block_with (codes "entry") [] (Br (codes "loop")) ∷ block_with (codes "loop") exchange (CondBr (Local (codes "c")) (codes "out") (codes "loop") None) ∷ block_with (codes "out") [] (Ret (Some (I64, Local (codes "b")))) ∷ [])) 0 4 ≡ Returned (Some 1)
unfolding print_name is_profile_name
phis_exchange = refl

-- ---- addresses

-- object 0 lies at 2 ^ 32
pub address_as_number : ends_in [] (Alloca (codes "p") (Scalar I16) ∷ Convert (codes "r") conversions.PtrToInt no_flags Ptr (Local (codes "p")) I64 ∷ []) (returning I64) 3 ≡ Returned (Some 4294967296)
unfolding print_name is_profile_name
address_as_number = refl

-- two steps back over values of two bytes
pub step_back : ends_in [] (Alloca (codes "p") (Scalar I64) ∷ Gep (codes "r") false (Scalar I16) (Local (codes "p")) ((I64, Int (2 ^ 64 - 2)) ∷ []) ∷ []) (returning Ptr) 3 ≡ Returned (Some 4294967292)
unfolding print_name is_profile_name
step_back = refl

-- the first index steps over arrays of 8 bytes, the second over their elements
pub into_an_array : ends_in [] (Alloca (codes "p") (Scalar I64) ∷ Gep (codes "r") false (Array 4 (Scalar I16)) (Local (codes "p")) ((I64, Int 1) ∷ (I64, Int 1) ∷ []) ∷ []) (returning Ptr) 3 ≡ Returned (Some 4294967306)
unfolding print_name is_profile_name shape-the_row-MemTy-0 hidden-the_row-MemTy-0 Carrier.hidden
into_an_array = refl

-- one cell more than there may be
pub too_many_cells : ends_in [] (Alloca (codes "p") (Array 1048577 (Scalar I8)) ∷ []) (Ret (Some (I64, Int 0))) 1 ≡ Trapped trap.Cells
unfolding print_name is_profile_name shape-the_row-MemTy-0 hidden-the_row-MemTy-0 Carrier.hidden
too_many_cells = refl

-- ---- calls of other functions

-- `define i64 @g(i64 %x) { b: %y = add i64 %x, 1 ret i64 %y }`
abbrev successor_function : Function
successor_function = record {
  name = codes "g";
  ret = ret.Value I64;
  params = (I64, codes "x") ∷ [];
  blocks = block_with (codes "b") (Binary (codes "y") binary.Add no_flags I64 (Local (codes "x")) (Int 1) ∷ []) (Ret (Some (I64, Local (codes "y")))) ∷ [];
  prof = None;
}

-- `declare void @NAME(i64)`
abbrev declared_function : List ℕ → Function
declared_function name =
    record { name = name; ret = ret.Void; params = (I64, []) ∷ []; blocks = []; prof = None }

-- `f`, of one block with these instructions, and another function
abbrev beside : Function → List Instr → Term → Module
beside g instrs t = record { globals = []; functions = function_of (block_with (codes "entry") instrs t ∷ []) ∷ g ∷ [] }

abbrev call_g : Operand → Instr
call_g callee = Call (Some (codes "r")) (ret.Value I64) callee ((I64, Int 41) ∷ []) None

pub result_of_a_call : ends (beside successor_function (call_g (Global (codes "g")) ∷ []) (returning I64)) 0 4 ≡ Returned (Some 42)
unfolding print_name is_profile_name
result_of_a_call = refl

-- the address of a function is held by a register
pub call_through_a_register : ends (beside successor_function (Freeze (codes "p") Ptr (Global (codes "g")) ∷ call_g (Local (codes "p")) ∷ []) (returning I64)) 0 5 ≡ Returned (Some 42)
unfolding print_name is_profile_name
call_through_a_register = refl

-- one argument too few
pub another_signature : ends (beside successor_function (Call (Some (codes "r")) (ret.Value I64) (Global (codes "g")) [] None ∷ []) (returning I64)) 0 4 ≡ Trapped trap.Callee
unfolding print_name is_profile_name
another_signature = refl

abbrev call_declared : List ℕ → ℕ → Instr
call_declared name n = Call None ret.Void (Global name) ((I64, Int n) ∷ []) None

pub no_work_to_do : ends (beside (declared_function (codes "exit")) (call_declared (codes "exit") 0 ∷ []) (Ret (Some (I64, Int 0)))) 0 2 ≡ Trapped trap.External
unfolding print_name is_profile_name
no_work_to_do = refl

abbrev prints_of : Module → ℕ → List ℕ
prints_of m steps = (result_of (run_of m (record { function = 0; args = 0 ∷ [] }) steps)).printed

-- `-7` and a line feed
pub signed_number_is_printed : prints_of (beside (declared_function (codes "print_i64")) (call_declared (codes "print_i64") (2 ^ 64 - 7) ∷ []) (Ret (Some (I64, Int 0)))) 2 ≡ 45 ∷ 55 ∷ 10 ∷ []
unfolding print_name is_profile_name digits
signed_number_is_printed = refl

-- ---- counting

abbrev marks_in : List Instr → ℕ → List What
marks_in instrs steps =
    marks_of (run_of (module_of [] (block_with (codes "entry") instrs (Ret (Some (I64, Int 0))) ∷ [])) (record { function = 0; args = 0 ∷ [] }) steps)

-- counter 2 of the unit `f` rises by 3
pub counter_rises : marks_in (Count (codes "__profc_f") 4 2 (Int 3) ∷ []) 2 ≡ Added (codes "f") 2 3 ∷ []
unfolding print_name is_profile_name
counter_rises = refl

pub increment_counts : marks_in (Call None ret.Void (Global (codes "llvm.instrprof.increment")) ((Ptr, Global (codes "__profn_f")) ∷ (I64, Int 0) ∷ (I32, Int 4) ∷ (I32, Int 2) ∷ []) None ∷ []) 2 ≡ Added (codes "f") 2 1 ∷ []
unfolding print_name is_profile_name
increment_counts = refl

pub step_counts : marks_in (Call None ret.Void (Global (codes "llvm.instrprof.increment.step")) ((Ptr, Global (codes "__profn_f")) ∷ (I64, Int 0) ∷ (I32, Int 4) ∷ (I32, Int 2) ∷ (I64, Int 5) ∷ []) None ∷ []) 2 ≡ Added (codes "f") 2 5 ∷ []
unfolding print_name is_profile_name
step_counts = refl

-- function 0 lies at 16, and at 17 there is none
pub value_is_noted : marks_in (Call None ret.Void (Global (codes "llvm.instrprof.value.profile")) ((Ptr, Global (codes "__profn_f")) ∷ (I64, Int 0) ∷ (I64, Int 16) ∷ (I32, Int 0) ∷ (I32, Int 3) ∷ []) None ∷ []) 2 ≡ Noted (codes "f") 3 0 ∷ []
unfolding print_name is_profile_name
value_is_noted = refl

pub target_is_noted : marks_in (Call None ret.Void (Global (codes "__llvm_profile_instrument_target")) ((I64, Int 16) ∷ (Ptr, Global (codes "__profd_f")) ∷ (I32, Int 1) ∷ []) None ∷ []) 2 ≡ Noted (codes "f") 1 0 ∷ []
unfolding print_name is_profile_name
target_is_noted = refl

pub no_target_is_noted : marks_in (Call None ret.Void (Global (codes "__llvm_profile_instrument_target")) ((I64, Int 17) ∷ (Ptr, Global (codes "__profd_f")) ∷ (I32, Int 1) ∷ []) None ∷ []) 2 ≡ []
unfolding print_name is_profile_name
no_target_is_noted = refl

-- ---- limits, in a state that is near them

abbrev trap_of_step : Step → Option TrapKind
trap_of_step (Goes shown state) = None
trap_of_step (Stops shown (Returns value)) = None
trap_of_step (Stops shown (Traps kind)) = Some kind

abbrev waiting_frame : Frame
waiting_frame = record { function = 0; block = codes "entry"; place = 0; registers = []; base = 0; into = None }

-- the state of so many functions that run, which have printed so many bytes
abbrev state_near : ℕ → ℕ → State
state_near depth output =
    record { frames = replicate depth waiting_frame; shared = record { memory = record { next = 0; live = [] }; output = output } }

abbrev calls_another : Module
calls_another = beside successor_function (call_g (Global (codes "g")) ∷ []) (returning I64)

pub depth_is_reached : trap_of_step (step calls_another (state_near 511 0)) ≡ None
unfolding print_name is_profile_name
depth_is_reached = refl

pub depth_is_passed : trap_of_step (step calls_another (state_near 512 0)) ≡ Some trap.Depth
unfolding print_name is_profile_name
depth_is_passed = refl

-- a digit and a line feed
abbrev prints_a_digit : Module
prints_a_digit = beside (declared_function (codes "print_i64")) (call_declared (codes "print_i64") 7 ∷ []) (Ret (Some (I64, Int 0)))

pub output_is_filled : trap_of_step (step prints_a_digit (state_near 1 32766)) ≡ None
unfolding print_name is_profile_name digits
output_is_filled = refl

pub output_is_passed : trap_of_step (step prints_a_digit (state_near 1 32767)) ≡ Some trap.Output
unfolding print_name is_profile_name digits
output_is_passed = refl
