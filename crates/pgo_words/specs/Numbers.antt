-- The numbers of the command line.
use Rattle.std.specs.Prelude.{if◌then◌else◌, ℕ, ◌&&◌, Bool, List, length, nat_le, Option, Some, None}
use Rattle.std.specs.List.{list_all}
use Rattle.std.specs.Str.Parse.{digits_value}
use Rattle.pgo_words.specs.Parts.{Text}

abbrev pub is_digit : ℕ → Bool
is_digit b = nat_le 48 b && nat_le b 57

-- one digit or more, at most so many
abbrev pub is_number : ℕ → Text → Bool
is_number most text = nat_le 1 (length text) && nat_le (length text) most && list_all is_digit text

-- the number is from `low` to `high`
abbrev pub is_within : ℕ → ℕ → ℕ → Bool
is_within low high n = nat_le low n && nat_le n high

-- the number that at most so many digits write, where it is from `low` to `high`
abbrev pub number_within : ℕ → ℕ → ℕ → Text → Option ℕ
number_within most low high text =
    if is_number most text && is_within low high (digits_value 10 text) then Some (digits_value 10 text) else None
