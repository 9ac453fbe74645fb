-- What one line of a profile text means.
use Rattle.std.specs.Prelude.{ℕ, ◌^◌, Bool, true, false, cond, not, ◌&&◌, List, [], ◌∷◌, Option, Some, None, map, drop, nat_eq, nat_lt, nat_le, codes, ◌==◌}
use Rattle.std.specs.Option.{option_map, option_and_then}
use Rattle.std.specs.List.{list_all, list_any, starts_with, before_last, after_last}
use Rattle.std.specs.Char.{digit_value, is_digit, to_ascii_lowercase}
use Rattle.std.specs.Str.Parse.{digits_value}
use Rattle.ir_grammar.specs.Words.{when, same}
use Rattle.prof_view.specs.Lines.{Line}

-- # Numbers

abbrev pub all_digits : ℕ → List ℕ → Bool
all_digits radix line = list_all (λ b. is_digit b radix) line

-- the value of a digit
abbrev pub digit_of : ℕ → ℕ → Option ℕ
digit_of radix b = when (is_digit b radix) (digit_value b)

abbrev pub fits : ℕ → Bool
fits n = nat_lt n (2 ^ 64)

-- digits of the radix, one or more, leading zeros among them, that write a number below 2^64
unfoldable pub numeral : ℕ → List ℕ → Option ℕ
numeral radix [] = None
numeral radix (b ∷ bs) = when (all_digits radix (b ∷ bs) && fits (digits_value radix (b ∷ bs))) (digits_value radix (b ∷ bs))

-- a decimal number from `least` to `most`
unfoldable pub number_within : ℕ → ℕ → Line → Option ℕ
number_within least most line = option_and_then (λ n. when (nat_le least n && nat_le n most) n) (numeral 10 line)

-- `0x` and hexadecimal digits, or a decimal number
unfoldable pub hash_of : Line → Option ℕ
hash_of line = cond (starts_with nat_eq line (codes "0x")) (numeral 16 (drop 2 line)) (numeral 10 line)

-- # Names

abbrev pub is_colon : ℕ → Bool
is_colon b = b == 58

abbrev pub begins_colon : Line → Bool
begins_colon [] = false
begins_colon (b ∷ bs) = is_colon b

abbrev pub is_name_byte : ℕ → Bool
is_name_byte b = nat_le 32 b && nat_le b 126

-- Bytes from 0x20 to 0x7E that are not digits alone and don't begin with a colon. No line that counts begins with `#`, or
-- has a blank at an end.
unfoldable pub name_of : Line → Option (List ℕ)
name_of line = when (list_all is_name_byte line && not (all_digits 10 line) && not (begins_colon line)) line

-- # The header

-- whether the line says that the profile is entry-first; none where it is no line of the header
abbrev pub header_word : List ℕ → Option Bool
header_word word = cond (same word (codes ":ir")) (Some false) (when (same word (codes ":entry_first")) true)

unfoldable pub header_of : Line → Option Bool
header_of line = header_word (map to_ascii_lowercase line)

-- # Targets

-- a name and a count, which the last colon parts; a line that begins with a colon is refused
unfoldable pub target_of : Line → Option (List ℕ × ℕ)
target_of line =
    cond (list_any is_colon line && not (begins_colon line))
    (option_map (λ n. (before_last is_colon line, n)) (numeral 10 (after_last is_colon line)))
    None
