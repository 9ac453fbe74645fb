-- An integer of w bits is a whole number below 2 ^ w. Read as signed, it is the number from -2 ^ (w - 1) up to
-- 2 ^ (w - 1) that is congruent to it modulo 2 ^ w.
use Rattle.std.specs.Prelude.{ℕ, ◌-◌, ◌%◌, ◌^◌, ◌<◌, ◌≤◌, ℤ, pos, ◌-ℤ◌, nat_lt, unsigned_abs, if◌then◌else◌}
use Rattle.std.specs.Int.{int_rem_euclid}

-- The widths that fit a machine word; those of the language are 1, 8, 16, 32 and 64
abbrev pub IsWidth : ℕ → Type 0
IsWidth w = (0 < w) × (w ≤ 64)

-- the integer of w bits that is congruent to z modulo 2 ^ w
abbrev pub wrapped : ℕ → ℤ → ℕ
wrapped w z = unsigned_abs (int_rem_euclid z (pos (2 ^ w)))

-- the signed reading of n: from one half of 2 ^ w on, it is below n by 2 ^ w
abbrev pub signed_of : ℕ → ℕ → ℤ
signed_of w n = if nat_lt n (2 ^ (w - 1)) then pos n else pos n -ℤ pos (2 ^ w)

-- the integers of w bits that read as the least signed number and as -1
abbrev pub least_signed : ℕ → ℕ
least_signed w = 2 ^ (w - 1)

abbrev pub minus_one : ℕ → ℕ
minus_one w = 2 ^ w - 1

-- the lowest w bits of n
abbrev pub truncated : ℕ → ℕ → ℕ
truncated w n = n % 2 ^ w
