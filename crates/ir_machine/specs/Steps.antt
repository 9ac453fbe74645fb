-- The step of resolved code, over lists and numbers, and its run.
use Rattle.std.specs.Prelude.{◌≡◌, ℕ, ◌+◌, ◌-◌, ◌==◌, nat_le, nat_lt, max, ℤ, pos, ◌+ℤ◌, ◌*ℤ◌, List, [], ◌∷◌, ◌++◌, map, Bool, true, false, ◌&&◌, Option, Some, None, Result, Ok, Err, if◌then◌else◌, length, position, reverse, slice_get, slice_set, unwrap_or, take, drop, replicate}
use Rattle.std.specs.Option.{option_map}
use Rattle.ir_tree.specs.Types.{is_pointer_type}
use Rattle.ir_tree.specs.declared.types.Module.{Module}
use Rattle.ir_tree.specs.declared.types.Ret.{Ret}
use Rattle.ir_tree.specs.declared.types.Ty.{Ty}
use Rattle.ir_tree.specs.declared.types.Ty.TheVariants.{I1, I64}
use Rattle.ir_value.specs.Integer.{signed_of}
use Rattle.ir_value.specs.Operators.{binary_of, compare_of}
use Rattle.ir_value.specs.declared.operators.DivTrap.{DivTrap}
use Rattle.ir_value.specs.declared.operators.DivTrap.TheVariants as division
use Rattle.ir_memory.specs.Memory.{MemoryState, dropped, live_cells, loaded, made, stored}
use Rattle.ir_memory.specs.declared.error.MemError.{MemError}
use Rattle.ir_memory.specs.declared.value.Base.TheVariants as base
use Rattle.ir_memory.specs.declared.value.Value.{Value}
use Rattle.ir_memory.specs.declared.value.Value.TheVariants as value
use Rattle.ir_model.specs.declared.probe.Event.{Event}
use Rattle.ir_model.specs.declared.probe.Event.TheVariants as event
use Rattle.ir_model.specs.declared.result.TrapKind.{TrapKind}
use Rattle.ir_model.specs.declared.result.TrapKind.TheVariants as trap
use Rattle.ir_model.specs.declared.result.End.{End}
use Rattle.ir_model.specs.declared.result.End.TheVariants as end
use Rattle.ir_model.specs.declared.result.Call.{Call}
use Rattle.ir_model.specs.declared.result.CallResult.{CallResult}
use Rattle.spec_machines.specs.Machine.{Next, Goes, Stops, Ran, Open, Ended, run}
use Rattle.ir_model.specs.Deed.{Choice, Takes, Leaves, Breaks, behind_default, cells_most, converted, moved, trap_of}
use Rattle.ir_model.specs.Sizes.{bytes_of}
use Rattle.ir_model.specs.State.{Shared, Stop, Returns, Traps}
use Rattle.ir_model.specs.Step.{depth_most, line_of, output_most, same_ret, same_type}
use Rattle.ir_model.specs.Values.{as_number, at_type, base_of, bits_of, function_at_address, number_at, offset_of}
use Rattle.ir_code.specs.Images.{memory_of, module_images}
use Rattle.ir_code.specs.Resolved.{module_code}
use Rattle.ir_code.specs.Units.{added, noted}
use Rattle.ir_code.specs.declared.code.Input.{Input}
use Rattle.ir_code.specs.declared.code.Input.TheVariants.{Number, Null, Function, Object, Register}
use Rattle.ir_code.specs.declared.code.Scaled.{Scaled}
use Rattle.ir_code.specs.declared.code.Span.{Span}
use Rattle.ir_code.specs.declared.code.Target.{Target}
use Rattle.ir_code.specs.declared.code.Op.{Op}
use Rattle.ir_code.specs.declared.code.Op.TheVariants as op
use Rattle.ir_code.specs.declared.code.Exit.{Exit}
use Rattle.ir_code.specs.declared.code.Exit.TheVariants as exit
use Rattle.ir_code.specs.declared.code.Move.{Move}
use Rattle.ir_code.specs.declared.code.EdgeCode.{EdgeCode}
use Rattle.ir_code.specs.declared.code.BlockCode.{BlockCode}
use Rattle.ir_code.specs.declared.code.Work.{Work}
use Rattle.ir_code.specs.declared.code.Work.TheVariants as work
use Rattle.ir_code.specs.declared.code.FunctionCode.{FunctionCode}
use Rattle.ir_machine.specs.declared.state.Frame.{Frame}
use Rattle.ir_machine.specs.declared.state.Machine.{Machine}
use Rattle.ir_machine.specs.declared.state.Sight.{Sight}
use Rattle.ir_machine.specs.declared.state.Sight.TheVariants as sight
use Rattle.ir_machine.specs.declared.state.Turn.{Turn}
use Rattle.ir_machine.specs.declared.state.Turn.TheVariants as turn

-- the functions that run, the latest call first, and what they share
pub record CodeState : Type 0 where
  pub frames : List Frame
  pub shared : Shared

-- what a step shows: a printed byte, or what is seen of it
pub data CodeShown : Type 0 where
  Byte : (byte : ℕ) → CodeShown
  Saw : (sight : Sight) → CodeShown

abbrev pub bytes : List CodeShown → List ℕ
bytes [] = []
bytes (Byte b ∷ xs) = b ∷ bytes xs
bytes (Saw s ∷ xs) = bytes xs

abbrev pub sights : List CodeShown → List Sight
sights [] = []
sights (Byte b ∷ xs) = sights xs
sights (Saw s ∷ xs) = s ∷ sights xs

abbrev pub CodeStep : Type 0
CodeStep = Next CodeShown Stop CodeState

abbrev pub fails : TrapKind → CodeStep
fails kind = Stops [] (Traps kind)

abbrev pub goes_to : List Frame → Shared → List CodeShown → CodeStep
goes_to frames shared shown = Goes shown (record { frames = frames; shared = shared })

-- ---- values

-- what a register holds, and 0 where there is none
abbrev pub register_value : List Value → ℕ → Value
register_value regs r = unwrap_or (slice_get regs r) (value.Int 0)

abbrev pub input_value : List Value → Input → Value
input_value regs (Number n) = value.Int n
input_value regs Null = value.Pointer base.Null 0
input_value regs (Function k) = value.Pointer (base.Function k) 0
input_value regs (Object i) = value.Pointer (base.Object i) 0
input_value regs (Register r) = register_value regs r

-- the registers, with a value in one of them
abbrev pub with_value : List Value → Option ℕ → Value → List Value
with_value regs None v = regs
with_value regs (Some r) v = slice_set regs r v

-- the same at the type of the target
abbrev pub with_target : List Value → Option Target → Value → List Value
with_target regs None v = regs
with_target regs (Some t) v = slice_set regs t.register (at_type t.ty v)

-- ---- operations

-- What an operation does: it gives a value to a register, or none, leaves a memory and tells marks; it calls the function at
-- an address; or it fails
pub data CodeDeed : Type 0 where
  Gives : (into : Option ℕ) (value : Value) (memory : MemoryState) (marks : List Event) → CodeDeed
  Calls : (into : Option Target) (ret : Ret) (address : ℕ) (values : List (Ty × Value)) → CodeDeed
  Fails : (kind : TrapKind) → CodeDeed

abbrev pub computed : ℕ → MemoryState → Result ℕ DivTrap → CodeDeed
computed into memory (Ok n) = Gives (Some into) (value.Int n) memory []
computed into memory (Err division.DivZero) = Fails trap.DivZero
computed into memory (Err division.DivOverflow) = Fails trap.DivOverflow

abbrev pub allocated : ℕ → MemoryState → ℕ → CodeDeed
allocated into memory size =
    if nat_le (live_cells memory.live + max 1 size) cells_most
    then Gives (Some into) (value.Pointer (base.Object memory.next) 0) (made memory size false) []
    else Fails trap.Cells

abbrev pub read_as : ℕ → MemoryState → Ty → Result Value MemError → CodeDeed
read_as into memory ty (Ok v) = Gives (Some into) (at_type ty v) memory []
read_as into memory ty (Err e) = Fails (trap_of e)

abbrev pub wrote : Result MemoryState MemError → CodeDeed
wrote (Ok memory) = Gives None (value.Int 0) memory []
wrote (Err e) = Fails (trap_of e)

-- how far the indices of a getelementptr go, in bytes
abbrev pub distance : List Value → List Scaled → ℤ
distance regs [] = pos 0
distance regs (s ∷ ss) =
    signed_of (bits_of s.ty) (number_at s.ty (input_value regs s.index)) *ℤ pos s.size +ℤ distance regs ss

abbrev pub noted_at : Span → ℕ → Option ℕ → List Event
noted_at unit site None = []
noted_at unit site (Some k) = noted unit site k

-- an operation with these registers, where there are so many functions
abbrev pub deed : List Value → ℕ → MemoryState → Op → CodeDeed
deed regs count memory (op.Binary into o ty left right) =
    computed into memory (binary_of o (bits_of ty) (number_at ty (input_value regs left)) (number_at ty (input_value regs right)))
deed regs count memory (op.Compare into p ty left right) =
    Gives (Some into) (value.Int (if compare_of p (bits_of ty) (number_at ty (input_value regs left)) (number_at ty (input_value regs right)) then 1 else 0)) memory []
deed regs count memory (op.Convert into o from to v) =
    Gives (Some into) (value.Int (converted o (bits_of from) (bits_of to) (number_at from (input_value regs v)))) memory []
deed regs count memory (op.Freeze into ty v) = Gives (Some into) (at_type ty (input_value regs v)) memory []
deed regs count memory (op.Select into ty c first second) =
    Gives (Some into) (at_type ty (if number_at I1 (input_value regs c) == 0 then input_value regs second else input_value regs first)) memory []
deed regs count memory (op.Alloca into size) = allocated into memory size
deed regs count memory (op.Load into ty address) =
    read_as into memory ty (loaded memory (base_of (input_value regs address)) (offset_of (input_value regs address)) (bytes_of ty) (is_pointer_type ty))
deed regs count memory (op.Store ty v address) =
    wrote (stored memory (base_of (input_value regs address)) (offset_of (input_value regs address)) (bytes_of ty) (at_type ty (input_value regs v)))
deed regs count memory (op.Gep into address indices) =
    Gives (Some into) (moved (input_value regs address) (distance regs indices)) memory []
deed regs count memory (op.Call into r callee args) =
    Calls into r (as_number (input_value regs callee)) (map (λ a. (a.0, input_value regs a.1)) args)
deed regs count memory (op.Add unit counter step) =
    Gives None (value.Int 0) memory (added unit (as_number (input_value regs counter)) (number_at I64 (input_value regs step)))
deed regs count memory (op.Note unit site target) =
    Gives None (value.Int 0) memory (noted_at unit (as_number (input_value regs site)) (function_at_address count (number_at I64 (input_value regs target))))
deed regs count memory op.Fail = Fails trap.Unreachable

-- what is seen of a mark; an evaluator tells no other event
abbrev pub seen_mark : Event → List CodeShown
seen_mark (event.Walked function edge) = []
seen_mark (event.Target function site callee) = []
seen_mark (event.Added counter step) = Saw (sight.Added counter step) ∷ []
seen_mark (event.Noted site callee) = Saw (sight.Noted site callee) ∷ []
seen_mark (event.Chose function select v) = []

abbrev pub seen_marks : List Event → List CodeShown
seen_marks [] = []
seen_marks (e ∷ es) = seen_mark e ++ seen_marks es

-- ---- frames

-- the frame with a register assigned
abbrev pub assigned : Frame → Option ℕ → Value → Frame
assigned fr into v = record fr { registers = with_value fr.registers into v }

-- the frame with one more operation done
abbrev pub past : Frame → Frame
past fr = record fr { place = fr.place + 1 }

-- a waiting frame that takes a result
abbrev pub resumed : Frame → Option Target → Option Value → Frame
resumed fr into None = fr
resumed fr into (Some v) = record fr { registers = with_target fr.registers into v }

-- the registers of a function that begins: its parameters with these values at their types, and the others 0
abbrev pub arguments : List Ty → List Value → List Value
arguments [] vs = []
arguments (t ∷ ts) [] = []
arguments (t ∷ ts) (v ∷ vs) = at_type t v ∷ arguments ts vs

abbrev pub filled : ℕ → List Value → List Value
filled count vs = take count vs ++ replicate (count - length vs) (value.Int 0)

abbrev pub first_registers : FunctionCode → List Value → List Value
first_registers f values = filled f.registers (arguments f.params values)

-- ---- calls

abbrev pub fits_params : List Ty → List (Ty × Value) → Bool
fits_params [] [] = true
fits_params [] (v ∷ vs) = false
fits_params (t ∷ ts) [] = false
fits_params (t ∷ ts) (v ∷ vs) = same_type t v.0 && fits_params ts vs

abbrev pub fits : Ret → List (Ty × Value) → FunctionCode → Bool
fits r values f = same_ret f.ret r && fits_params f.params values

abbrev pub prints : Frame → List Frame → Shared → List ℕ → CodeStep
prints fr rest shared text =
    if nat_le (shared.output + length text) output_most
    then goes_to (fr ∷ rest) (record shared { output = shared.output + length text }) (map Byte text)
    else fails trap.Output

abbrev pub prints_first : Frame → List Frame → Shared → List (Ty × Value) → CodeStep
prints_first fr rest shared [] = fails trap.External
prints_first fr rest shared (v ∷ vs) = prints fr rest shared (line_of (number_at I64 v.1))

-- a declared function does its work in the step of the call
abbrev pub declared : Frame → List Frame → Shared → Work → List (Ty × Value) → CodeStep
declared fr rest shared work.Print values = prints_first fr rest shared values
declared fr rest shared work.Nothing values = goes_to (fr ∷ rest) shared []
declared fr rest shared work.External values = fails trap.External

-- a function in its first block, with these arguments
abbrev pub first_frame : ℕ → FunctionCode → List Value → ℕ → Option Target → Frame
first_frame k f values base into = record {
  function = k;
  block = 0;
  place = 0;
  registers = first_registers f values;
  base = base;
  into = into;
}

abbrev pub enters : Frame → List Frame → Shared → Option Target → ℕ → FunctionCode → List Value → CodeStep
enters fr rest shared into k f values =
    goes_to (first_frame k f values shared.memory.next into ∷ fr ∷ rest) shared (Saw (sight.Entered k) ∷ [])

-- a defined function begins at its first block
abbrev pub entered : Frame → List Frame → Shared → Option Target → ℕ → FunctionCode → List (Ty × Value) → List BlockCode → CodeStep
entered fr rest shared into k f values [] = declared fr rest shared f.work values
entered fr rest shared into k f values (b ∷ bs) =
    if nat_lt (length (fr ∷ rest)) depth_most
    then enters fr rest shared into k f (map (λ v. v.1) values)
    else fails trap.Depth

abbrev pub called : Frame → List Frame → Shared → Option Target → Ret → List (Ty × Value) → ℕ → Option FunctionCode → CodeStep
called fr rest shared into r values k None = fails trap.Callee
called fr rest shared into r values k (Some f) =
    if fits r values f then entered fr rest shared into k f values f.blocks else fails trap.Callee

abbrev pub call_at : List FunctionCode → Frame → List Frame → Shared → Option Target → Ret → List (Ty × Value) → Option ℕ → CodeStep
call_at code fr rest shared into r values None = fails trap.Callee
call_at code fr rest shared into r values (Some k) = called fr rest shared into r values k (slice_get code k)

-- ---- steps

-- a step by an operation, where the frame counts it as done
abbrev pub acted : List FunctionCode → Frame → List Frame → Shared → CodeDeed → CodeStep
acted code fr rest shared (Gives into v memory marks) =
    goes_to (assigned fr into v ∷ rest) (record shared { memory = memory }) (seen_marks marks)
acted code fr rest shared (Calls into r address values) =
    call_at code fr rest shared into r values (function_at_address (length code) address)
acted code fr rest shared (Fails kind) = fails kind

-- the registers after these moves, to which these values go in order
abbrev pub put_all : List Value → List Move → List Value → List Value
put_all regs [] vs = regs
put_all regs (m ∷ ms) vs =
    put_all (with_target regs (Some m.into) (register_value vs 0)) ms (drop 1 vs)

-- all values are read before the first is written
abbrev pub moved_all : List Value → List Move → List Value
moved_all regs ms = put_all regs ms (map (λ (m : Move). input_value regs m.source) ms)

abbrev pub left_by : Frame → ℕ → List CodeShown
left_by fr position = Saw (sight.Left fr.function fr.block position) ∷ []

abbrev pub walked : Frame → List Frame → Shared → ℕ → Option EdgeCode → CodeStep
walked fr rest shared position None = fails trap.Unreachable
walked fr rest shared position (Some e) =
    goes_to (record fr { block = e.block; place = 0; registers = moved_all fr.registers e.moves } ∷ rest) shared (left_by fr position)

abbrev pub returned : Frame → List Frame → Shared → Option Value → CodeStep
returned fr [] shared v = Stops (left_by fr 0) (Returns (option_map as_number v))
returned fr (caller ∷ rest) shared v =
    goes_to (resumed caller fr.into v ∷ rest) (record shared { memory = dropped shared.memory fr.base }) (left_by fr 0)

-- what an exit does, with these registers
abbrev pub choice : List Value → Exit → Choice
choice regs exit.Go = Takes 0
choice regs (exit.Choose c) = Takes (if number_at I1 (input_value regs c) == 0 then 1 else 0)
choice regs (exit.Switch ty v cases) =
    Takes (behind_default (position (λ n. n == number_at ty (input_value regs v)) cases))
choice regs (exit.Return v) = Leaves (option_map (λ u. at_type u.0 (input_value regs u.1)) v)
choice regs exit.Unreachable = Breaks trap.Unreachable

abbrev pub exited : Frame → List Frame → Shared → List EdgeCode → Choice → CodeStep
exited fr rest shared edges (Takes position) = walked fr rest shared position (slice_get edges position)
exited fr rest shared edges (Leaves v) = returned fr rest shared v
exited fr rest shared edges (Breaks kind) = fails kind

abbrev pub at_op : List FunctionCode → Frame → List Frame → Shared → List EdgeCode → Exit → Option Op → CodeStep
at_op code fr rest shared edges exit None = exited fr rest shared edges (choice fr.registers exit)
at_op code fr rest shared edges exit (Some o) =
    acted code (past fr) rest shared (deed fr.registers (length code) shared.memory o)

abbrev pub in_block : List FunctionCode → Frame → List Frame → Shared → Option BlockCode → CodeStep
in_block code fr rest shared None = fails trap.Unreachable
in_block code fr rest shared (Some b) = at_op code fr rest shared b.edges b.exit (slice_get b.ops fr.place)

abbrev pub in_function : List FunctionCode → Frame → List Frame → Shared → Option FunctionCode → CodeStep
in_function code fr rest shared None = fails trap.Unreachable
in_function code fr rest shared (Some f) = in_block code fr rest shared (slice_get f.blocks fr.block)

abbrev pub stepped : List FunctionCode → List Frame → Shared → CodeStep
stepped code [] shared = fails trap.Unreachable
stepped code (fr ∷ rest) shared = in_function code fr rest shared (slice_get code fr.function)

abbrev pub code_step : List FunctionCode → CodeState → CodeStep
code_step code s = stepped code s.frames s.shared

-- ---- results

abbrev pub end_of : Stop → End
end_of (Returns v) = end.Returned v
end_of (Traps kind) = end.Trapped kind

-- the result of a run, where these bytes were printed before it
abbrev pub result_from : List ℕ → Ran CodeShown Stop → CallResult
result_from before (Open shown) = record { printed = before ++ bytes shown; end = end.StepsSpent }
result_from before (Ended shown stop) = record { printed = before ++ bytes shown; end = end_of stop }

-- the state in which a machine is
abbrev pub shared_of : Machine → Shared
shared_of m = record { memory = m.memory; output = length m.printed.items }

abbrev pub state_of : Machine → CodeState
state_of m = record { frames = m.top ∷ reverse m.callers.items; shared = shared_of m }

-- the end that a step comes to, and what is seen of it
abbrev pub turn_end : Turn → Option End
turn_end turn.Goes = None
turn_end (turn.Sees s) = None
turn_end (turn.Returns s v) = Some (end.Returned v)
turn_end (turn.Traps kind) = Some (end.Trapped kind)

abbrev pub turn_sights : Turn → List Sight
turn_sights turn.Goes = []
turn_sights (turn.Sees s) = s ∷ []
turn_sights (turn.Returns s v) = s ∷ []
turn_sights (turn.Traps kind) = []

-- a line is appended if it is within the limit, and `fits` says whether it is
abbrev pub Prints : List ℕ → List ℕ → Bool → List ℕ → Type 0
Prints text before fits after =
    (fits ≡ nat_le (length before + length text) output_most) × (after ≡ if fits then before ++ text else before)

abbrev pub waiting_of : Machine → List Frame
waiting_of m = reverse m.callers.items

-- What a machine has done where its step comes to this: it went on, or it stopped with an end
abbrev pub After : CodeStep → List ℕ → Turn → Machine → Type 0
After (Goes shown s) before t m =
    (turn_end t ≡ None) × (turn_sights t ≡ sights shown) × (state_of m ≡ s) × (m.printed.items ≡ before ++ bytes shown)
After (Stops shown stop) before t m =
    (turn_end t ≡ Some (end_of stop)) × (turn_sights t ≡ sights shown) × (m.printed.items ≡ before ++ bytes shown)

-- the same where it does a deed
abbrev pub Does : List FunctionCode → Machine → CodeDeed → Turn → Machine → Type 0
Does code before d t after =
    After (acted code before.top (waiting_of before) (shared_of before) d) before.printed.items t after

-- a deed that calls no function
abbrev pub DoesAlone : Machine → CodeDeed → Turn → Machine → Type 0
DoesAlone before d t after = (code : List FunctionCode) → Does code before d t after

-- what a machine does in a call, whose arguments these operands give
abbrev pub valued : List Value → Ty × Input → Ty × Value
valued regs a = (a.0, input_value regs a.1)

-- what it does where its step comes to this
abbrev pub Comes : Machine → (Frame → List Frame → Shared → CodeStep) → Turn → Machine → Type 0
Comes before step t after =
    After (step before.top (waiting_of before) (shared_of before)) before.printed.items t after

-- ---- calls from outside

-- the state in which function k begins with these arguments
abbrev pub first_state : MemoryState → ℕ → FunctionCode → List ℕ → CodeState
first_state memory k f args = record {
  frames = first_frame k f (map value.Int args) memory.next None ∷ [];
  shared = record { memory = memory; output = 0 };
}

-- the state in which a call begins on the code of its module, which has the call's function
abbrev pub start_in : MemoryState → Call → Option FunctionCode → CodeState
start_in memory c None = record { frames = []; shared = record { memory = memory; output = 0 } }
start_in memory c (Some f) = first_state memory c.function f c.args

abbrev pub start_of : Module → Call → CodeState
start_of m c = start_in (memory_of (module_images m)) c (slice_get (module_code m) c.function)

abbrev pub call_run : Module → Call → ℕ → Ran CodeShown Stop
call_run m c n = run (code_step (module_code m)) n (start_of m c)

-- the marks among what is seen
abbrev pub events_of : List Sight → List Event
events_of [] = []
events_of (sight.Entered k ∷ ss) = events_of ss
events_of (sight.Left k block position ∷ ss) = events_of ss
events_of (sight.Added counter step ∷ ss) = event.Added counter step ∷ events_of ss
events_of (sight.Noted site callee ∷ ss) = event.Noted site callee ∷ events_of ss
