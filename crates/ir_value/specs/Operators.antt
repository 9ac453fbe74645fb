-- The integer operators of the LLVM Language Reference, as functions on whole numbers, for every width w.
use Rattle.std.specs.Prelude.{ℕ, ◌*◌, ◌/◌, ◌%◌, ◌^◌, Bool, true, false, ◌&&◌, not, ℤ, pos, ◌+ℤ◌, ◌-ℤ◌, ◌*ℤ◌, int_div, int_rem, int_lt, int_le, ◌==◌, nat_lt, nat_le, Result, Ok, Err, bit_and, bit_or, bit_xor, if◌then◌else◌}
use Rattle.std.specs.Int.{int_shr}
use Rattle.ir_value.specs.Integer.{wrapped, signed_of, least_signed, minus_one}
use Rattle.ir_value.specs.declared.operators.ValueOp.{ValueOp}
use Rattle.ir_value.specs.declared.operators.ValueOp.TheVariants.{Add, Sub, Mul, UDiv, SDiv, URem, SRem, Shl, LShr, AShr, And, Or, Xor}
use Rattle.ir_value.specs.declared.operators.ValuePred.{ValuePred}
use Rattle.ir_value.specs.declared.operators.ValuePred.TheVariants.{Eq, Ne, Ugt, Uge, Ult, Ule, Sgt, Sge, Slt, Sle}
use Rattle.ir_value.specs.declared.operators.DivTrap.{DivTrap}
use Rattle.ir_value.specs.declared.operators.DivTrap.TheVariants.{DivZero, DivOverflow}

-- the operators that divide, and those of them that divide signed numbers
abbrev pub divides : ValueOp → Bool
divides UDiv = true
divides SDiv = true
divides URem = true
divides SRem = true
divides _ = false

abbrev pub divides_signed : ValueOp → Bool
divides_signed SDiv = true
divides_signed SRem = true
divides_signed _ = false

-- the quotient of the least signed number by -1 is no signed number of w bits
abbrev pub overflows : ℕ → ℕ → ℕ → Bool
overflows w left right = (left == least_signed w) && (right == minus_one w)

-- a division by `right`, which traps at 0
abbrev pub divided : ℕ → ℕ → Result ℕ DivTrap
divided right n = if right == 0 then Err DivZero else Ok n

-- a signed division, which also traps where the quotient overflows
abbrev pub divided_signed : ℕ → ℕ → ℕ → ℤ → Result ℕ DivTrap
divided_signed w left right z =
    if right == 0 then Err DivZero else (if overflows w left right then Err DivOverflow else Ok (wrapped w z))

-- a shift, which gives 0 from w bits on
abbrev pub shifted : ℕ → ℕ → ℕ → ℕ
shifted w by n = if nat_lt by w then n else 0

-- What an operator gives. Sums, differences and products are modulo 2 ^ w; `int_div` rounds towards 0, `int_rem` has
-- the sign of the dividend, and `int_shr` rounds down
abbrev pub binary_of : ValueOp → ℕ → ℕ → ℕ → Result ℕ DivTrap
binary_of Add w left right = Ok (wrapped w (pos left +ℤ pos right))
binary_of Sub w left right = Ok (wrapped w (pos left -ℤ pos right))
binary_of Mul w left right = Ok (wrapped w (pos left *ℤ pos right))
binary_of UDiv w left right = divided right (left / right)
binary_of SDiv w left right = divided_signed w left right (int_div (signed_of w left) (signed_of w right))
binary_of URem w left right = divided right (left % right)
binary_of SRem w left right = divided_signed w left right (int_rem (signed_of w left) (signed_of w right))
binary_of Shl w left right = Ok (shifted w right (wrapped w (pos (left * 2 ^ right))))
binary_of LShr w left right = Ok (shifted w right (left / 2 ^ right))
binary_of AShr w left right = Ok (shifted w right (wrapped w (int_shr (signed_of w left) right)))
binary_of And w left right = Ok (bit_and left right)
binary_of Or w left right = Ok (bit_or left right)
binary_of Xor w left right = Ok (bit_xor left right)

-- whether a comparison holds: those that begin with U go by the numbers, those that begin with S by the signed readings
abbrev pub compare_of : ValuePred → ℕ → ℕ → ℕ → Bool
compare_of Eq w left right = left == right
compare_of Ne w left right = not (left == right)
compare_of Ugt w left right = nat_lt right left
compare_of Uge w left right = nat_le right left
compare_of Ult w left right = nat_lt left right
compare_of Ule w left right = nat_le left right
compare_of Sgt w left right = int_lt (signed_of w right) (signed_of w left)
compare_of Sge w left right = int_le (signed_of w right) (signed_of w left)
compare_of Slt w left right = int_lt (signed_of w left) (signed_of w right)
compare_of Sle w left right = int_le (signed_of w left) (signed_of w right)

-- the integer of `to` bits with the same value: as a signed number, or as it is
abbrev pub extended : Bool → ℕ → ℕ → ℕ → ℕ
extended signed from to n = if signed then wrapped to (signed_of from n) else n
