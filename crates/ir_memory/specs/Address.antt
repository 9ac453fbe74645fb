-- Where a pointer points, as a number.
use Rattle.std.specs.Prelude.{ℕ, ◌+◌, ◌*◌, ◌%◌, ◌^◌, Bool, false, true, ◌==◌}
use Rattle.ir_memory.specs.declared.value.Base.{Base}
use Rattle.ir_memory.specs.declared.value.Base.TheVariants.{Null, Function, Object}

-- the address of what a pointer is based on: functions lie 16 bytes apart, and objects 2 ^ 32
abbrev pub base_address : Base → ℕ
base_address Null = 0
base_address (Function k) = 16 * (k + 1)
base_address (Object i) = (i + 1) * 2 ^ 32

-- the address of a pointer, modulo 2 ^ 64
abbrev pub address_of : Base → ℕ → ℕ
address_of base offset = (base_address base + offset) % 2 ^ 64

-- whether two bases are one
abbrev pub same_base : Base → Base → Bool
same_base Null Null = true
same_base (Function k) (Function l) = k == l
same_base (Object i) (Object j) = i == j
same_base _ _ = false
