-- The step of a module: one instruction other than a phi, or one terminator.
--
-- In a module that the checker accepts labels and functions are found, and phis stand in front of their blocks and have an
-- entry for each predecessor. Where another module has something else, the step traps as `unreachable`; a phi without an
-- entry gives 0.
use Rattle.std.specs.Prelude.{ℕ, ◌+◌, ◌==◌, nat_le, nat_lt, List, [], ◌∷◌, ◌++◌, Option, Some, None, Bool, true, false, ◌&&◌, ◌||◌, if◌then◌else◌, length, map, drop, slice_get, option_and_then, codes}
use Rattle.std.specs.Fmt.{signed_decimal}
use Rattle.std.specs.Option.{option_map}
use Rattle.ir_tree.specs.Blocks.{block_named}
use Rattle.ir_tree.specs.Functions.{function_at, print_name}
use Rattle.ir_tree.specs.Names.{same}
use Rattle.ir_tree.specs.Operands.{Entries, result_of}
use Rattle.ir_tree.specs.Phis.{entries_of, leading_phis, behind_phis, value_for}
use Rattle.ir_tree.specs.Successors.{successors}
use Rattle.ir_tree.specs.Types.{value_of_ret, width_of}
use Rattle.ir_value.specs.Integer.{signed_of}
use Rattle.ir_memory.specs.Memory.{dropped}
use Rattle.ir_memory.specs.declared.value.Base.TheVariants.{Null}
use Rattle.ir_memory.specs.declared.value.Value.{Value}
use Rattle.ir_memory.specs.declared.value.Value.TheVariants as value
use Rattle.ir_tree.specs.declared.types.Ty.{Ty}
use Rattle.ir_tree.specs.declared.types.Ty.TheVariants.{I64}
use Rattle.ir_tree.specs.declared.types.Ret.{Ret}
use Rattle.ir_tree.specs.declared.types.Ret.TheVariants as ret
use Rattle.ir_tree.specs.declared.types.Operand.{Operand}
use Rattle.ir_tree.specs.declared.types.Operand.TheVariants.{Int, Null, Local, Global}
use Rattle.ir_tree.specs.declared.types.Instr.{Instr}
use Rattle.ir_tree.specs.declared.types.Term.{Term}
use Rattle.ir_tree.specs.declared.types.Block.{Block}
use Rattle.ir_tree.specs.declared.types.Function.{Function}
use Rattle.ir_tree.specs.declared.types.Module.{Module}
use Rattle.ir_model.specs.declared.result.TrapKind.{TrapKind}
use Rattle.ir_model.specs.declared.result.TrapKind.TheVariants as trap
use Rattle.spec_machines.specs.Machine.{Next, Goes, Stops}
use Rattle.ir_model.specs.Deed.{Deed, Gives, Calls, Fails, deed, Choice, Takes, Leaves, Breaks, choice}
use Rattle.ir_model.specs.State.{Registers, held, arguments, Frame, Shared, State, Shown, Did, Targeted, Printed, Entered, Walked, Stop, Returns, Traps}
use Rattle.ir_model.specs.Values.{as_number, at_type, function_at_address, functions_of, number_at, symbol_value}

-- what an operand is worth
abbrev pub value_of : Module → Registers → Operand → Value
value_of m rs (Int n) = value.Int n
value_of m rs Null = value.Pointer Null 0
value_of m rs (Local x) = held rs x
value_of m rs (Global x) = symbol_value m x

-- ---- phis

-- the value that a phi takes, and 0 where it has no entry for the label
abbrev pub taken : Module → Registers → Option Operand → Value
taken m rs None = value.Int 0
taken m rs (Some o) = value_of m rs o

-- the value of a phi with these entries, on the edge from the block of a label
abbrev pub phi_value : Module → Registers → List ℕ → Option Entries → Value
phi_value m rs from None = value.Int 0
phi_value m rs from (Some es) = taken m rs (value_for from es)

-- the registers, with a value of this type for this name
abbrev pub with_typed : Option (List ℕ × Ty) → Value → Registers → Registers
with_typed None v rs = rs
with_typed (Some x) v rs = (x.0, at_type x.1 v) ∷ rs

-- the result of an instruction with its type, where it has one
abbrev pub typed : Option (List ℕ × Ret) → Option (List ℕ × Ty)
typed None = None
typed (Some (x, r)) = option_map (λ t. (x, t)) (value_of_ret r)

-- the registers, with a value for the result of this name
abbrev pub with_result : Option (List ℕ) → Value → Registers → Registers
with_result None v rs = rs
with_result (Some x) v rs = (x, v) ∷ rs

-- These registers after phis that all read the registers before; of two results of one name the later counts
abbrev pub with_phis : Module → Registers → List ℕ → List Instr → Registers → Registers
with_phis m before from [] rs = rs
with_phis m before from (i ∷ is) rs =
    with_phis m before from is (with_typed (typed (result_of i)) (phi_value m before from (entries_of i)) rs)

-- ---- frames

abbrev pub Step : Type 0
Step = Next Shown Stop State

abbrev pub fails : TrapKind → Step
fails kind = Stops [] (Traps kind)

abbrev pub goes_to : List Frame → Shared → List Shown → Step
goes_to frames shared shown = Goes shown (record { frames = frames; shared = shared })

-- the block of this label in function k
abbrev pub sought : Module → ℕ → List ℕ → Option Block
sought m k l = option_and_then (λ (f : Function). block_named f.blocks l) (function_at m k)

-- the phis of a block, none where it is not found
abbrev pub phis_in : Option Block → List Instr
phis_in None = []
phis_in (Some b) = leading_phis b.instrs

-- the frame with one more instruction done, and its register assigned
abbrev pub past : Frame → Option (List ℕ) → Value → Frame
past fr into v = record fr { place = fr.place + 1; registers = with_result into v fr.registers }

-- the frame that waits behind a call
abbrev pub waiting : Frame → Frame
waiting fr = record fr { place = fr.place + 1 }

-- the frame in another block, behind its phis
abbrev pub entering : Module → Frame → List ℕ → List Instr → Frame
entering m fr l ps =
    record fr { block = l; place = 0; registers = with_phis m fr.registers fr.block ps fr.registers }

-- a waiting frame that takes a result
abbrev pub resumed : Frame → Option (List ℕ × Ty) → Option Value → Frame
resumed fr into None = fr
resumed fr into (Some v) = record fr { registers = with_typed into v fr.registers }

-- ---- calls

abbrev pub same_width : Option ℕ → Option ℕ → Bool
same_width None None = true
same_width None (Some w) = false
same_width (Some v) None = false
same_width (Some v) (Some w) = v == w

-- types are told apart by their widths, and a pointer by having none
abbrev pub same_type : Ty → Ty → Bool
same_type t u = same_width (width_of t) (width_of u)

abbrev pub same_ret : Ret → Ret → Bool
same_ret ret.Void ret.Void = true
same_ret ret.Void (ret.Value u) = false
same_ret (ret.Value t) ret.Void = false
same_ret (ret.Value t) (ret.Value u) = same_type t u

-- does a call with this type of return and these arguments fit the function?
abbrev pub fits_params : List (Ty × List ℕ) → List (Ty × Value) → Bool
fits_params [] [] = true
fits_params [] (v ∷ vs) = false
fits_params (p ∷ ps) [] = false
fits_params (p ∷ ps) (v ∷ vs) = same_type p.0 v.0 && fits_params ps vs

abbrev pub fits : Ret → List (Ty × Value) → Function → Bool
fits r values f = same_ret f.ret r && fits_params f.params values

-- the most bytes that one call prints, and the most frames
abbrev pub output_most : ℕ
output_most = 32768

abbrev pub depth_most : ℕ
depth_most = 512

-- a number of 64 bits in signed decimal, and a line feed
abbrev pub line_of : ℕ → List ℕ
line_of n = signed_decimal (signed_of 64 n) ++ 10 ∷ []

-- that a call through a register went to function k
abbrev pub targeted : Bool → Frame → ℕ → List Shown
targeted true fr k = Targeted fr.function fr.block fr.place k ∷ []
targeted false fr k = []

abbrev pub prints : Frame → List Frame → Shared → List Shown → List ℕ → Step
prints fr rest shared shown text =
    if nat_le (shared.output + length text) output_most
    then goes_to (waiting fr ∷ rest) (record shared { output = shared.output + length text }) (shown ++ map Printed text)
    else fails trap.Output

abbrev pub prints_first : Frame → List Frame → Shared → List Shown → List (Ty × Value) → Step
prints_first fr rest shared shown [] = fails trap.External
prints_first fr rest shared shown (v ∷ vs) = prints fr rest shared shown (line_of (number_at I64 v.1))

-- the declared functions that do nothing (LLVM Language Reference, "Memory Use Markers")
abbrev pub marks_lifetime : List ℕ → Bool
marks_lifetime name = same (codes "llvm.lifetime.start.p0") name || same (codes "llvm.lifetime.end.p0") name

-- a declared function does its work in the step of the call
abbrev pub declared : Frame → List Frame → Shared → List Shown → List ℕ → List (Ty × Value) → Step
declared fr rest shared shown name values =
    if same print_name name
    then prints_first fr rest shared shown values
    else if marks_lifetime name then goes_to (waiting fr ∷ rest) shared shown else fails trap.External

-- a defined function begins at its first block
abbrev pub entered : Frame → List Frame → Shared → List Shown → Option (List ℕ × Ty) → ℕ → Function → List (Ty × Value) → List Block → Step
entered fr rest shared shown into k f values [] = declared fr rest shared shown f.name values
entered fr rest shared shown into k f values (b ∷ bs) =
    if nat_lt (length (fr ∷ rest)) depth_most
    then goes_to
    (record { function = k; block = b.label; place = 0; registers = arguments f.params (map (λ v. v.1) values); base = shared.memory.next; into = into }
    ∷ waiting fr ∷ rest)
    shared (shown ++ Entered k ∷ [])
    else fails trap.Depth

-- a call of function k, if there is one
abbrev pub called : Frame → List Frame → Shared → Bool → Option (List ℕ × Ty) → Ret → List (Ty × Value) → ℕ → Option Function → Step
called fr rest shared through into r values k None = fails trap.Callee
called fr rest shared through into r values k (Some f) =
    if fits r values f then entered fr rest shared (targeted through fr k) into k f values f.blocks else fails trap.Callee

abbrev pub call_at : Module → Frame → List Frame → Shared → Bool → Option (List ℕ × Ty) → Ret → List (Ty × Value) → Option ℕ → Step
call_at m fr rest shared through into r values None = fails trap.Callee
call_at m fr rest shared through into r values (Some k) = called fr rest shared through into r values k (function_at m k)

-- ---- steps

-- a step by an instruction
abbrev pub acted : Module → Frame → List Frame → Shared → Deed → Step
acted m fr rest shared (Gives into v memory shown) =
    goes_to (past fr into v ∷ rest) (record shared { memory = memory }) (map (Did fr.function fr.block fr.place) shown)
acted m fr rest shared (Calls through into r address values) =
    call_at m fr rest shared through into r values (function_at_address (functions_of m) address)
acted m fr rest shared (Fails kind) = fails kind

-- An edge is walked: the phis of its target are done in the same step
abbrev pub walked : Module → Frame → List Frame → Shared → ℕ → Option (List ℕ) → Step
walked m fr rest shared position None = fails trap.Unreachable
walked m fr rest shared position (Some to) =
    goes_to (entering m fr to (phis_in (sought m fr.function to)) ∷ rest) shared (Walked fr.function fr.block position ∷ [])

-- the objects that a function allocated end where it returns
abbrev pub ended : Frame → Shared → Shared
ended fr shared = record shared { memory = dropped shared.memory fr.base }

abbrev pub returned : Frame → List Frame → Shared → Option Value → Step
returned fr [] shared v = Stops (Walked fr.function fr.block 0 ∷ []) (Returns (option_map as_number v))
returned fr (caller ∷ rest) shared v =
    goes_to (resumed caller fr.into v ∷ rest) (ended fr shared) (Walked fr.function fr.block 0 ∷ [])

-- a step by a terminator with these successors
abbrev pub left : Module → Frame → List Frame → Shared → List (List ℕ) → Choice → Step
left m fr rest shared ss (Takes position) = walked m fr rest shared position (slice_get ss position)
left m fr rest shared ss (Leaves v) = returned fr rest shared v
left m fr rest shared ss (Breaks kind) = fails kind

-- a step at what is left of a block
abbrev pub done : Module → Frame → List Frame → Shared → List Instr → Term → Step
done m fr rest shared [] t = left m fr rest shared (successors t) (choice (value_of m fr.registers) t)
done m fr rest shared (i ∷ is) t =
    acted m fr rest shared (deed (value_of m fr.registers) (functions_of m) shared.memory i)

abbrev pub done_in : Module → Frame → List Frame → Shared → Option Block → Step
done_in m fr rest shared None = fails trap.Unreachable
done_in m fr rest shared (Some b) = done m fr rest shared (drop fr.place (behind_phis b.instrs)) b.term

abbrev pub stepped : Module → List Frame → Shared → Step
stepped m [] shared = fails trap.Unreachable
stepped m (fr ∷ rest) shared = done_in m fr rest shared (sought m fr.function fr.block)

-- One instruction or one terminator of the function that was called last
abbrev pub step : Module → State → Step
step m s = stepped m s.frames s.shared
