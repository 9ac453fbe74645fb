-- What instructions and terminators give and read (LLVM Language Reference, "Instruction Reference"). A definition over
-- instructions has a clause for each of them, so that none is forgotten.
use Rattle.std.specs.Prelude.{ℕ, Bool, true, false, ◌==◌, cond, List, [], ◌∷◌, ◌++◌, map, flat_map, filter_map, Option, Some, None, is_some}
use Rattle.std.specs.Borrow.{Bor}
use Rattle.std.specs.Option.{option_map}
use Rattle.ir_tree.specs.Names.{same}
use Rattle.ir_tree.specs.declared.types.Instr.{Instr}
use Rattle.ir_tree.specs.declared.types.Instr.TheVariants.{Binary, Compare, Convert, Freeze, Select, Phi, Alloca, Load, Store, Gep, Call, Count}
use Rattle.ir_tree.specs.declared.types.Operand.{Operand}
use Rattle.ir_tree.specs.declared.types.Operand.TheVariants.{Int, Null, Local, Global}
use Rattle.ir_tree.specs.declared.types.Ret.{Ret}
use Rattle.ir_tree.specs.declared.types.Ret.TheVariants.{Value}
use Rattle.ir_tree.specs.declared.types.Term.{Term}
use Rattle.ir_tree.specs.declared.types.Term.TheVariants as term
use Rattle.ir_tree.specs.declared.types.Ty.{Ty}
use Rattle.ir_tree.specs.declared.types.Ty.TheVariants.{I1, I64, Ptr}

-- ---- results

-- the name and type of an instruction's result; a named call of a function that returns nothing has the type `void`
abbrev pub result_of : Instr → Option (List ℕ × Ret)
result_of (Binary dest op flags ty left right) = Some (dest, Value ty)
result_of (Compare dest pred ty left right) = Some (dest, Value I1)
result_of (Convert dest op flags from value to) = Some (dest, Value to)
result_of (Freeze dest ty value) = Some (dest, Value ty)
result_of (Select dest cond ty first second prof) = Some (dest, Value ty)
result_of (Phi dest ty entries) = Some (dest, Value ty)
result_of (Alloca dest mem) = Some (dest, Value Ptr)
result_of (Load dest ty address) = Some (dest, Value ty)
result_of (Store ty value address) = None
result_of (Gep dest inbounds mem address indices) = Some (dest, Value Ptr)
result_of (Call None ret callee args prof) = None
result_of (Call (Some dest) ret callee args prof) = Some (dest, ret)
result_of (Count symbol size index step) = None

abbrev pub result_name : Instr → Option (List ℕ)
result_name i = option_map (λ r. r.0) (result_of i)

-- the results of a list of instructions, in order
abbrev pub result_names : List Instr → List (List ℕ)
result_names is = filter_map result_name is

-- ---- operands

-- an operand with the type of its place
abbrev pub Use : Type 0
Use = Ty × Operand

-- what a reference to one shows
abbrev pub used : Ty × Bor Operand → Use
used u = (u.0, u.1.now)

-- the values of a phi, each with the label of the block that it comes from
abbrev pub Entries : Type 0
Entries = List (Operand × List ℕ)

-- the operands of an instruction in text order, the values of a phi among them
abbrev pub operands : Instr → List Use
operands (Binary dest op flags ty left right) = (ty, left) ∷ (ty, right) ∷ []
operands (Compare dest pred ty left right) = (ty, left) ∷ (ty, right) ∷ []
operands (Convert dest op flags from value to) = (from, value) ∷ []
operands (Freeze dest ty value) = (ty, value) ∷ []
operands (Select dest cond ty first second prof) = (I1, cond) ∷ (ty, first) ∷ (ty, second) ∷ []
operands (Phi dest ty entries) = map (λ e. (ty, e.0)) entries
operands (Alloca dest mem) = []
operands (Load dest ty address) = (Ptr, address) ∷ []
operands (Store ty value address) = (ty, value) ∷ (Ptr, address) ∷ []
operands (Gep dest inbounds mem address indices) = (Ptr, address) ∷ indices
operands (Call dest ret callee args prof) = (Ptr, callee) ∷ args
operands (Count symbol size index step) = (I64, step) ∷ []

-- the operand of a terminator; none has more than one
abbrev pub term_operand : Term → Option Use
term_operand (term.Br to) = None
term_operand (term.CondBr cond first second prof) = Some (I1, cond)
term_operand (term.Switch ty value default cases prof) = Some (ty, value)
term_operand (term.Ret value) = value
term_operand term.Unreachable = None

-- ---- symbols

-- the global variable or function that an operand names
abbrev pub symbol_of : Operand → Option (List ℕ)
symbol_of (Int value) = None
symbol_of Null = None
symbol_of (Local name) = None
symbol_of (Global name) = Some name

-- the array of counters that an instruction names
abbrev pub counters_of : Instr → Option (List ℕ)
counters_of (Binary dest op flags ty left right) = None
counters_of (Compare dest pred ty left right) = None
counters_of (Convert dest op flags from value to) = None
counters_of (Freeze dest ty value) = None
counters_of (Select dest cond ty first second prof) = None
counters_of (Phi dest ty entries) = None
counters_of (Alloca dest mem) = None
counters_of (Load dest ty address) = None
counters_of (Store ty value address) = None
counters_of (Gep dest inbounds mem address indices) = None
counters_of (Call dest ret callee args prof) = None
counters_of (Count symbol size index step) = Some symbol

abbrev pub listed : {A : Type 0} → Option A → List A
listed None = []
listed (Some x) = x ∷ []

-- the global variables and functions that an instruction names, in text order
abbrev pub symbols_of : Instr → List (List ℕ)
symbols_of i = listed (counters_of i) ++ filter_map (λ u. symbol_of u.1) (operands i)

-- ---- equal operands

abbrev pub same_operand : Operand → Operand → Bool
same_operand (Int x) (Int y) = x == y
same_operand (Int x) Null = false
same_operand (Int x) (Local y) = false
same_operand (Int x) (Global y) = false
same_operand Null (Int y) = false
same_operand Null Null = true
same_operand Null (Local y) = false
same_operand Null (Global y) = false
same_operand (Local x) (Int y) = false
same_operand (Local x) Null = false
same_operand (Local x) (Local y) = same x y
same_operand (Local x) (Global y) = false
same_operand (Global x) (Int y) = false
same_operand (Global x) Null = false
same_operand (Global x) (Local y) = false
same_operand (Global x) (Global y) = same x y
