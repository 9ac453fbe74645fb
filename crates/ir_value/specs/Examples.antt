-- The definitions at work, in numbers that a reader can check by hand.
use Rattle.std.specs.Prelude.{◌≡◌, pos, negsuc, Ok, Err, true, false, refl}
use Rattle.ir_value.specs.Integer.{signed_of, wrapped, truncated, least_signed, minus_one}
use Rattle.ir_value.specs.Operators.{binary_of, compare_of, extended}
use Rattle.ir_value.specs.declared.operators.ValueOp.TheVariants.{Sub, UDiv, SDiv, SRem, Shl, AShr}
use Rattle.ir_value.specs.declared.operators.ValuePred.TheVariants.{Ult, Slt}
use Rattle.ir_value.specs.declared.operators.DivTrap.TheVariants.{DivZero, DivOverflow}

-- 249 in 8 bits reads as -7, 127 as itself, 128 as -128, and the one bit 1 as -1
reads_below_zero : signed_of 8 249 ≡ negsuc 6
reads_below_zero = refl

reads_greatest : signed_of 8 127 ≡ pos 127
reads_greatest = refl

reads_least : signed_of 8 (least_signed 8) ≡ negsuc 127
reads_least = refl

reads_minus_one : signed_of 8 (minus_one 8) ≡ negsuc 0
reads_minus_one = refl

reads_bit : signed_of 1 1 ≡ negsuc 0
reads_bit = refl

-- -7 in 8 bits is 249
wraps_below_zero : wrapped 8 (negsuc 6) ≡ 249
wraps_below_zero = refl

-- 3 - 5 is 254 in 8 bits
subtracts : binary_of Sub 8 3 5 ≡ Ok 254
subtracts = refl

-- 249 / 2 is 124, and as signed numbers -7 / 2 is -3
divides_unsigned : binary_of UDiv 8 249 2 ≡ Ok 124
divides_unsigned = refl

rounds_towards_zero : binary_of SDiv 8 249 2 ≡ Ok 253
rounds_towards_zero = refl

-- -7 % 2 is -1, and 7 % -2 is 1
remainder_below_zero : binary_of SRem 8 249 2 ≡ Ok 255
remainder_below_zero = refl

remainder_above_zero : binary_of SRem 8 7 254 ≡ Ok 1
remainder_above_zero = refl

-- -128 / -1 would be 128
division_overflows : binary_of SDiv 8 128 255 ≡ Err DivOverflow
division_overflows = refl

remainder_overflows : binary_of SRem 8 128 255 ≡ Err DivOverflow
remainder_overflows = refl

division_by_zero : binary_of SDiv 8 128 0 ≡ Err DivZero
division_by_zero = refl

-- -7 >> 1 is -4, and a shift by the width gives 0
rounds_down : binary_of AShr 8 249 1 ≡ Ok 252
rounds_down = refl

shifts_out : binary_of AShr 8 249 8 ≡ Ok 0
shifts_out = refl

drops_high_bits : binary_of Shl 8 129 1 ≡ Ok 2
drops_high_bits = refl

-- -7 is below 2, and 249 is not
orders_signed : compare_of Slt 8 249 2 ≡ true
orders_signed = refl

orders_unsigned : compare_of Ult 8 249 2 ≡ false
orders_unsigned = refl

-- -7 in 16 bits
extends_sign : extended true 8 16 249 ≡ 65529
extends_sign = refl

extends_zero : extended false 8 16 249 ≡ 249
extends_zero = refl

truncates : truncated 8 65529 ≡ 249
truncates = refl
