-- The value types: their widths, their integers, and the literals that are written of them.
use Rattle.std.specs.Prelude.{ℕ, ◌-◌, ◌^◌, ◌%◌, Bool, true, false, cond, nat_lt, nat_le, Option, Some, None, is_some}
use Rattle.std.specs.Option.{option_and_then}
use Rattle.ir_tree.specs.declared.types.Ty.{Ty}
use Rattle.ir_tree.specs.declared.types.Ty.TheVariants.{I1, I8, I16, I32, I64, Ptr}
use Rattle.ir_tree.specs.declared.types.Ret.{Ret}
use Rattle.ir_tree.specs.declared.types.Ret.TheVariants.{Void, Value}

-- the bits of an integer type, none of a pointer
abbrev pub width_of : Ty → Option ℕ
width_of I1 = Some 1
width_of I8 = Some 8
width_of I16 = Some 16
width_of I32 = Some 32
width_of I64 = Some 64
width_of Ptr = None

abbrev pub is_integer_type : Ty → Bool
is_integer_type ty = is_some (width_of ty)

abbrev pub is_pointer_type : Ty → Bool
is_pointer_type I1 = false
is_pointer_type I8 = false
is_pointer_type I16 = false
is_pointer_type I32 = false
is_pointer_type I64 = false
is_pointer_type Ptr = true

abbrev pub is_below_width : ℕ → Option ℕ → Bool
is_below_width value None = false
is_below_width value (Some w) = nat_lt value (2 ^ w)

-- an integer of the type: a number below 2 to its width. A pointer type has none
abbrev pub is_integer_of : Ty → ℕ → Bool
is_integer_of ty value = is_below_width value (width_of ty)

abbrev pub when : {A : Type 0} → Bool → A → Option A
when test x = cond test (Some x) None

-- a number from -2^(w-1) to 2^w - 1, kept modulo 2^w; the sign comes first, and then the magnitude
abbrev pub literal_of_width : Bool → ℕ → ℕ → Option ℕ
literal_of_width true magnitude w = when (nat_le magnitude (2 ^ (w - 1))) ((2 ^ w - magnitude) % 2 ^ w)
literal_of_width false magnitude w = when (nat_lt magnitude (2 ^ w)) magnitude

-- the literal of a type with this sign and magnitude, none where it is out of the type's range
abbrev pub literal_of : Ty → Bool → ℕ → Option ℕ
literal_of ty minus magnitude = option_and_then (literal_of_width minus magnitude) (width_of ty)

-- a function's type of return, by what a call of it gives
abbrev pub value_of_ret : Ret → Option Ty
value_of_ret Void = None
value_of_ret (Value ty) = Some ty
