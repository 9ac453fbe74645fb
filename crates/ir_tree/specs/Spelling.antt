-- How names are spelled (LLVM Language Reference, "Identifiers"), each byte by its ASCII code.
use Rattle.std.specs.Prelude.{ℕ, Bool, ◌&&◌, ◌||◌, ◌==◌, not, cond, List, [], ◌∷◌, ◌++◌, length, slice_index}
use Rattle.std.specs.Char.{is_ascii_alphabetic, is_ascii_digit, is_ascii_graphic}
use Rattle.std.specs.List.{list_all}

-- a letter, `$`, `.` or `_`
unfoldable pub is_word_first : ℕ → Bool
is_word_first b = is_ascii_alphabetic b || (b == 36 || (b == 46 || b == 95))

-- a byte that begins a name without quotes: one of these, or `-`
unfoldable pub is_name_first : ℕ → Bool
is_name_first b = is_word_first b || b == 45

-- a byte of a name without quotes: one of these, or a digit
unfoldable pub is_name_byte : ℕ → Bool
is_name_byte b = is_name_first b || is_ascii_digit b

-- a printable byte that a name may have at all, in quotes: not `"`, `#`, `:` or `\`
unfoldable pub is_quotable : ℕ → Bool
is_quotable b = is_ascii_graphic b && not (b == 34 || (b == 35 || (b == 58 || b == 92)))

abbrev pub is_empty : List ℕ → Bool
is_empty name = length name == 0

-- a plain name needs no quotes
unfoldable pub is_plain : List ℕ → Bool
is_plain name = not (is_empty name) && is_name_first (slice_index name 0) && list_all is_name_byte name

-- digits alone name parameters, labels and results, and no global variable or function
unfoldable pub is_digits : List ℕ → Bool
is_digits name = not (is_empty name) && list_all is_ascii_digit name

-- the bytes of a parameter, label or result; plain names and digits are among them
unfoldable pub is_local_name : List ℕ → Bool
is_local_name name = not (is_empty name) && list_all is_quotable name

-- the bytes of a global variable or function
unfoldable pub is_global_name : List ℕ → Bool
is_global_name name = is_local_name name && not (list_all is_ascii_digit name)

abbrev pub quoted : List ℕ → List ℕ
quoted name = 34 ∷ name ++ 34 ∷ []

-- what is written behind `@`: a name that isn't plain stands in quotes
unfoldable pub global_text : List ℕ → List ℕ
global_text name = cond (is_plain name) name (quoted name)

-- what is written behind `%`, where digits alone need no quotes either
unfoldable pub local_text : List ℕ → List ℕ
local_text name = cond (is_plain name || is_digits name) name (quoted name)
