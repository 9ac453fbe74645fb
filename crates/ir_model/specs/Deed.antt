-- What an instruction and a terminator mean (LLVM Language Reference, "Instruction Reference"), given what their operands
-- are worth, how many functions there are, and the memory. In a module that the checker accepts each operand has the type
-- of its place; elsewhere it is read at that type.
use Rattle.std.specs.Prelude.{ℕ, ◌+◌, ◌==◌, nat_le, max, Bool, true, false, if◌then◌else◌, ℤ, pos, ◌+ℤ◌, ◌*ℤ◌, List, [], ◌∷◌, map, drop, position, codes, Option, Some, None, Result, Ok, Err}
use Rattle.std.specs.Option.{option_map}
use Rattle.ir_tree.specs.Functions.{is_profile_name}
use Rattle.ir_tree.specs.Names.{same}
use Rattle.ir_tree.specs.Types.{is_pointer_type}
use Rattle.ir_value.specs.Integer.{signed_of, truncated, wrapped}
use Rattle.ir_value.specs.Operators.{binary_of, compare_of, extended}
use Rattle.ir_value.specs.declared.operators.ValueOp.{ValueOp}
use Rattle.ir_value.specs.declared.operators.ValueOp.TheVariants as op
use Rattle.ir_value.specs.declared.operators.ValuePred.{ValuePred}
use Rattle.ir_value.specs.declared.operators.ValuePred.TheVariants as predicate
use Rattle.ir_value.specs.declared.operators.DivTrap.{DivTrap}
use Rattle.ir_value.specs.declared.operators.DivTrap.TheVariants as division
use Rattle.ir_tree.specs.declared.types.Ty.{Ty}
use Rattle.ir_tree.specs.declared.types.Ty.TheVariants.{I1, I64}
use Rattle.ir_tree.specs.declared.types.MemTy.{MemTy}
use Rattle.ir_tree.specs.declared.types.Ret.{Ret}
use Rattle.ir_tree.specs.declared.types.Ret.TheVariants as ret
use Rattle.ir_tree.specs.declared.types.BinOp.{BinOp}
use Rattle.ir_tree.specs.declared.types.BinOp.TheVariants as binary
use Rattle.ir_tree.specs.declared.types.ConvOp.{ConvOp}
use Rattle.ir_tree.specs.declared.types.ConvOp.TheVariants as conversion
use Rattle.ir_tree.specs.declared.types.Pred.{Pred}
use Rattle.ir_tree.specs.declared.types.Pred.TheVariants as pred
use Rattle.ir_tree.specs.declared.types.Operand.{Operand}
use Rattle.ir_tree.specs.declared.types.Operand.TheVariants as operand
use Rattle.ir_tree.specs.declared.types.Instr.{Instr}
use Rattle.ir_tree.specs.declared.types.Instr.TheVariants.{Binary, Compare, Convert, Freeze, Select, Phi, Alloca, Load, Store, Gep, Call, Count}
use Rattle.ir_tree.specs.declared.types.Term.{Term}
use Rattle.ir_tree.specs.declared.types.Term.TheVariants as term
use Rattle.ir_memory.specs.Memory.{MemoryState, live_cells, loaded, made, stored}
use Rattle.ir_memory.specs.declared.error.MemError.{MemError}
use Rattle.ir_memory.specs.declared.error.MemError.TheVariants as fault
use Rattle.ir_memory.specs.declared.value.Base.TheVariants.{Object}
use Rattle.ir_memory.specs.declared.value.Value.{Value}
use Rattle.ir_memory.specs.declared.value.Value.TheVariants.{Int, Pointer}
use Rattle.ir_model.specs.Sizes.{bytes_of, element_of, size_of}
use Rattle.ir_model.specs.State.{What, Added, Noted, Chose}
use Rattle.ir_model.specs.Values.{as_number, at_type, base_of, bits_of, function_at_address, number_at, offset_of}
use Rattle.ir_model.specs.declared.result.TrapKind.{TrapKind}
use Rattle.ir_model.specs.declared.result.TrapKind.TheVariants as trap

-- What an instruction does: it gives a value of its type to a register, or none, and leaves a memory; it calls the function at an
-- address, through a register or by its name, with values and the types of their places; or it fails
pub data Deed : Type 0 where
  Gives : (into : Option (List ℕ)) (value : Value) (memory : MemoryState) (shown : List What) → Deed
  Calls : (through : Bool) (into : Option (List ℕ × Ty)) (ret : Ret) (address : ℕ) (values : List (Ty × Value)) → Deed
  Fails : (kind : TrapKind) → Deed

-- ---- operators

-- the operators and predicates of `ir_value`, by their names
abbrev pub operator : BinOp → ValueOp
operator binary.Add = op.Add
operator binary.Sub = op.Sub
operator binary.Mul = op.Mul
operator binary.UDiv = op.UDiv
operator binary.SDiv = op.SDiv
operator binary.URem = op.URem
operator binary.SRem = op.SRem
operator binary.Shl = op.Shl
operator binary.LShr = op.LShr
operator binary.AShr = op.AShr
operator binary.And = op.And
operator binary.Or = op.Or
operator binary.Xor = op.Xor

abbrev pub comparison : Pred → ValuePred
comparison pred.Eq = predicate.Eq
comparison pred.Ne = predicate.Ne
comparison pred.Ugt = predicate.Ugt
comparison pred.Uge = predicate.Uge
comparison pred.Ult = predicate.Ult
comparison pred.Ule = predicate.Ule
comparison pred.Sgt = predicate.Sgt
comparison pred.Sge = predicate.Sge
comparison pred.Slt = predicate.Slt
comparison pred.Sle = predicate.Sle

-- what an operator gives, or its trap
abbrev pub computed : Option (List ℕ) → MemoryState → Result ℕ DivTrap → Deed
computed into memory (Ok n) = Gives into (Int n) memory []
computed into memory (Err division.DivZero) = Fails trap.DivZero
computed into memory (Err division.DivOverflow) = Fails trap.DivOverflow

abbrev pub converted : ConvOp → ℕ → ℕ → ℕ → ℕ
converted conversion.Trunc from to n = truncated to n
converted conversion.ZExt from to n = extended false from to n
converted conversion.SExt from to n = extended true from to n
converted conversion.PtrToInt from to n = truncated to n

-- ---- memory

-- the most live cells
abbrev pub cells_most : ℕ
cells_most = 1048576

abbrev pub allocated : Option (List ℕ) → MemoryState → ℕ → Deed
allocated into memory size =
    if nat_le (live_cells memory.live + max 1 size) cells_most
    then Gives into (Pointer (Object memory.next) 0) (made memory size false) []
    else Fails trap.Cells

-- the trap of a refused load or store
abbrev pub trap_of : MemError → TrapKind
trap_of fault.Cells = trap.Cells
trap_of fault.Access = trap.Access
trap_of fault.BadPointer = trap.BadPointer
trap_of fault.NoMemory = trap.Access

abbrev pub read_as : Option (List ℕ) → MemoryState → Ty → Result Value MemError → Deed
read_as into memory ty (Ok value) = Gives into (at_type ty value) memory []
read_as into memory ty (Err e) = Fails (trap_of e)

abbrev pub load : Option (List ℕ) → MemoryState → Ty → Value → Deed
load into memory ty address =
    read_as into memory ty (loaded memory (base_of address) (offset_of address) (bytes_of ty) (is_pointer_type ty))

abbrev pub wrote : Result MemoryState MemError → Deed
wrote (Ok memory) = Gives None (Int 0) memory []
wrote (Err e) = Fails (trap_of e)

abbrev pub store : MemoryState → Ty → Value → Value → Deed
store memory ty value address =
    wrote (stored memory (base_of address) (offset_of address) (bytes_of ty) (at_type ty value))

-- How far the indices of a getelementptr go in bytes: the first steps over values of the type, each later one enters an array
abbrev pub inner_distance : MemTy → List ℤ → ℤ
inner_distance mem [] = pos 0
inner_distance mem (i ∷ is) = i *ℤ pos (size_of (element_of mem)) +ℤ inner_distance (element_of mem) is

abbrev pub distance : MemTy → List ℤ → ℤ
distance mem [] = pos 0
distance mem (i ∷ is) = i *ℤ pos (size_of mem) +ℤ inner_distance mem is

-- a pointer that is moved, modulo 2 ^ 64
abbrev pub moved : Value → ℤ → Value
moved address by = Pointer (base_of address) (wrapped 64 (pos (offset_of address) +ℤ by))

-- ---- counting

-- the unit that a global of the profile names: its name behind `__profn_`, `__profc_` or `__profd_`
abbrev pub unit_of : Operand → List ℕ
unit_of (operand.Int n) = []
unit_of operand.Null = []
unit_of (operand.Local x) = []
unit_of (operand.Global g) = drop 8 g

-- a target note: of the function that lies at the address, and none where no function does
abbrev pub note : List ℕ → ℕ → Option ℕ → List What
note unit site None = []
note unit site (Some k) = Noted unit site k ∷ []

-- The four functions of a profile, by their name and arguments; no accepted module has another call of one
abbrev pub profile_shown : (Operand → Value) → ℕ → List ℕ → List (Ty × Operand) → Option (List What)
profile_shown val count name (unit ∷ hash ∷ counters ∷ index ∷ []) =
    if same (codes "llvm.instrprof.increment") name
    then Some (Added (unit_of unit.1) (as_number (val index.1)) 1 ∷ [])
    else None
profile_shown val count name (unit ∷ second ∷ third ∷ fourth ∷ fifth ∷ []) =
    if same (codes "llvm.instrprof.increment.step") name
    then Some (Added (unit_of unit.1) (as_number (val fourth.1)) (number_at I64 (val fifth.1)) ∷ [])
    else if same (codes "llvm.instrprof.value.profile") name
    then Some (note (unit_of unit.1) (as_number (val fifth.1)) (function_at_address count (number_at I64 (val third.1))))
    else None
profile_shown val count name (target ∷ unit ∷ site ∷ []) =
    if same (codes "__llvm_profile_instrument_target") name
    then Some (note (unit_of unit.1) (as_number (val site.1)) (function_at_address count (number_at I64 (val target.1))))
    else None
profile_shown val count name [] = None
profile_shown val count name (a ∷ []) = None
profile_shown val count name (a ∷ b ∷ []) = None
profile_shown val count name (a ∷ b ∷ c ∷ d ∷ e ∷ f ∷ more) = None

abbrev pub profiled : MemoryState → Option (List What) → Deed
profiled memory None = Fails trap.Unreachable
profiled memory (Some shown) = Gives None (Int 0) memory shown

-- ---- calls

-- the function of a profile that a call names
abbrev pub profile_callee : Operand → Option (List ℕ)
profile_callee (operand.Int n) = None
profile_callee operand.Null = None
profile_callee (operand.Local x) = None
profile_callee (operand.Global f) = if is_profile_name f then Some f else None

abbrev pub is_register : Operand → Bool
is_register (operand.Int n) = false
is_register operand.Null = false
is_register (operand.Local x) = true
is_register (operand.Global f) = false

-- the register that takes a call's result, with its type
abbrev pub result_into : Option (List ℕ) → Ret → Option (List ℕ × Ty)
result_into None r = None
result_into (Some x) ret.Void = None
result_into (Some x) (ret.Value ty) = Some (x, ty)

abbrev pub call : (Operand → Value) → ℕ → MemoryState → Option (List ℕ) → Ret → Operand → List (Ty × Operand) → Option (List ℕ) → Deed
call val count memory into r callee args None =
    Calls (is_register callee) (result_into into r) r (as_number (val callee)) (map (λ a. (a.0, val a.1)) args)
call val count memory into r callee args (Some name) = profiled memory (profile_shown val count name args)

-- ---- instructions

abbrev pub deed : (Operand → Value) → ℕ → MemoryState → Instr → Deed
deed val count memory (Binary into o flags ty left right) =
    computed (Some into) memory (binary_of (operator o) (bits_of ty) (number_at ty (val left)) (number_at ty (val right)))
deed val count memory (Compare into p ty left right) =
    Gives (Some into) (Int (if compare_of (comparison p) (bits_of ty) (number_at ty (val left)) (number_at ty (val right)) then 1 else 0)) memory []
deed val count memory (Convert into o flags from value to) =
    Gives (Some into) (Int (converted o (bits_of from) (bits_of to) (number_at from (val value)))) memory []
deed val count memory (Freeze into ty value) = Gives (Some into) (at_type ty (val value)) memory []
deed val count memory (Select into c ty first second prof) =
    Gives (Some into) (at_type ty (if number_at I1 (val c) == 0 then val second else val first)) memory (Chose (number_at I1 (val c)) ∷ [])
deed val count memory (Phi into ty entries) = Fails trap.Unreachable
deed val count memory (Alloca into mem) = allocated (Some into) memory (size_of mem)
deed val count memory (Load into ty address) = load (Some into) memory ty (val address)
deed val count memory (Store ty value address) = store memory ty (val value) (val address)
deed val count memory (Gep into inbounds mem address indices) =
    Gives (Some into) (moved (val address) (distance mem (map (λ i. signed_of (bits_of i.0) (number_at i.0 (val i.1))) indices))) memory []
deed val count memory (Call into r callee args prof) = call val count memory into r callee args (profile_callee callee)
deed val count memory (Count symbol size index step) =
    Gives None (Int 0) memory (Added (drop 8 symbol) index (number_at I64 (val step)) ∷ [])

-- ---- terminators

-- What a terminator does: it takes the successor at a position, returns, or fails
pub data Choice : Type 0 where
  Takes : (position : ℕ) → Choice
  Leaves : (value : Option Value) → Choice
  Breaks : (kind : TrapKind) → Choice

-- the successor of a switch: that of the first case with the value, else the default, which stands at position 0
abbrev pub behind_default : Option ℕ → ℕ
behind_default None = 0
behind_default (Some k) = k + 1

abbrev pub case_position : ℕ → List (ℕ × List ℕ) → ℕ
case_position n cases = behind_default (position (λ c. c.0 == n) cases)

-- a condition of 0 takes the second successor
abbrev pub choice : (Operand → Value) → Term → Choice
choice val (term.Br to) = Takes 0
choice val (term.CondBr c first second prof) = Takes (if number_at I1 (val c) == 0 then 1 else 0)
choice val (term.Switch ty v default cases prof) = Takes (case_position (number_at ty (val v)) cases)
choice val (term.Ret v) = Leaves (option_map (λ u. at_type u.0 (val u.1)) v)
choice val term.Unreachable = Breaks trap.Unreachable
