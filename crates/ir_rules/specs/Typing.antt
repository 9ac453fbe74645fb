-- Rule 12. Each operand has the type of its place. A literal stands at an integer type and is below 2 to its width; `null` and
-- the address of a global stand at a pointer. Operators, conversions, switches and indices are of integer types; `ptrtoint`
-- takes a pointer; `trunc` narrows, `zext` and `sext` widen; the indices of a getelementptr behind the first enter arrays.
use Rattle.std.specs.Prelude.{ℕ, Bool, true, false, ◌&&◌, nat_lt, List, [], ◌∷◌, drop, Option, None, Some}
use Rattle.std.specs.List.{list_all, list_any}
use Rattle.ir_rules.specs.Declarations.{same_ty}
use Rattle.ir_rules.specs.Parts.{Rule, places, silent}
use Rattle.ir_rules.specs.Scopes.{term_reads, values}
use Rattle.ir_rules.specs.Sizes.{element_of}
use Rattle.ir_rules.specs.declared.place.Place.{Place}
use Rattle.ir_tree.specs.Names.{same}
use Rattle.ir_tree.specs.Operands.{Use, operands}
use Rattle.ir_tree.specs.Types.{is_integer_of, is_integer_type, is_pointer_type, width_of}
use Rattle.ir_tree.specs.declared.types.ConvOp.{ConvOp}
use Rattle.ir_tree.specs.declared.types.ConvOp.TheVariants.{Trunc, ZExt, SExt, PtrToInt}
use Rattle.ir_tree.specs.declared.types.Instr.{Instr}
use Rattle.ir_tree.specs.declared.types.Instr.TheVariants.{Binary, Compare, Convert, Freeze, Select, Phi, Alloca, Load, Store, Gep, Call, Count}
use Rattle.ir_tree.specs.declared.types.MemTy.{MemTy, Array'}
use Rattle.ir_tree.specs.declared.types.MemTy.TheVariants.{Scalar}
use Rattle.ir_tree.specs.declared.types.Module.{Module}
use Rattle.ir_tree.specs.declared.types.Operand.{Operand}
use Rattle.ir_tree.specs.declared.types.Operand.TheVariants.{Int, Null, Local, Global}
use Rattle.ir_tree.specs.declared.types.Ret.{Ret}
use Rattle.ir_tree.specs.declared.types.Ret.TheVariants.{Void, Value}
use Rattle.ir_tree.specs.declared.types.Term.{Term}
use Rattle.ir_tree.specs.declared.types.Term.TheVariants as term
use Rattle.ir_tree.specs.declared.types.Ty.{Ty}

-- ---- operands

abbrev pub gives : Ty → Ret → Bool
gives t Void = false
gives t (Value u) = same_ty u t

-- a parameter or result of the name has the type
abbrev pub has_type : List (List ℕ × Ret) → Ty → List ℕ → Bool
has_type known t name = list_any (λ v. same name v.0 && gives t v.1) known

abbrev pub fits_at : List (List ℕ × Ret) → Ty → Operand → Bool
fits_at known t (Int value) = is_integer_of t value
fits_at known t Null = is_pointer_type t
fits_at known t (Local name) = has_type known t name
fits_at known t (Global name) = is_pointer_type t

abbrev pub fits : List (List ℕ × Ret) → Use → Bool
fits known u = fits_at known u.0 u.1

-- ---- the types of instructions

-- less bits, where both are integer types
abbrev pub is_narrower : Option ℕ → Option ℕ → Bool
is_narrower None w = false
is_narrower (Some v) None = false
is_narrower (Some v) (Some w) = nat_lt v w

abbrev pub converts : ConvOp → Ty → Ty → Bool
converts Trunc from to = is_narrower (width_of to) (width_of from)
converts ZExt from to = is_narrower (width_of from) (width_of to)
converts SExt from to = is_narrower (width_of from) (width_of to)
converts PtrToInt from to = is_pointer_type from && is_integer_type to

abbrev pub is_array : MemTy → Bool
is_array (Scalar ty) = false
is_array (Array' count shape element) = true

-- each of these indices enters an array
abbrev pub enter : MemTy → List Use → Bool
enter mem [] = true
enter mem (i ∷ is) = is_array mem && enter (element_of mem) is

abbrev pub is_typed : Instr → Bool
is_typed (Binary dest op flags ty left right) = is_integer_type ty
is_typed (Compare dest pred ty left right) = true
is_typed (Convert dest op flags from value to) = converts op from to
is_typed (Freeze dest ty value) = true
is_typed (Select dest cond ty first second prof) = true
is_typed (Phi dest ty entries) = true
is_typed (Alloca dest mem) = true
is_typed (Load dest ty address) = true
is_typed (Store ty value address) = true
is_typed (Gep dest inbounds mem address indices) = list_all (λ i. is_integer_type i.0) indices && enter mem (drop 1 indices)
is_typed (Call dest ret callee args prof) = true
is_typed (Count symbol size index step) = true

-- the case values of a switch are literals of its type
abbrev pub is_typed_term : Term → Bool
is_typed_term (term.Br to) = true
is_typed_term (term.CondBr cond first second prof) = true
is_typed_term (term.Switch ty value default cases prof) = is_integer_type ty && list_all (λ c. is_integer_of ty c.0) cases
is_typed_term (term.Ret value) = true
is_typed_term term.Unreachable = true

abbrev pub typing : Rule
typing = record silent {
  item = λ f b block i x. list_all (fits (values f)) (operands x) && is_typed x;
  exit = λ f b block. list_all (fits (values f)) (term_reads block.term) && is_typed_term block.term;
}

abbrev pub breaks_12 : Module → List Place
breaks_12 m = places typing m
