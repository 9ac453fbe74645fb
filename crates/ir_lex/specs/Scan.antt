use Rattle.std.specs.Prelude.{ℕ, zero, suc, ◌-◌, Bool, ◌==◌, cond, nat_lt, if◌then◌else◌, List, [], ◌∷◌, length, drop, Option, None, Some}
use Rattle.std.specs.List.{prefix_len}
use Rattle.std.specs.Option.{option_and_then}
use Rattle.std.specs.Char.{is_ascii_digit, is_ascii_hexdigit}
use Rattle.ir_tree.specs.Spelling.{is_word_first, is_name_first, is_name_byte, is_quotable}
use Rattle.ir_lex.specs.Classes.{is_string_byte, is_sign}
use Rattle.ir_lex.specs.declared.token.TokenKind.{TokenKind}
use Rattle.ir_lex.specs.declared.token.TokenKind.TheVariants.{Word, Number, Global, Local, Label, Str, Bytes, Group, Mark, Sign}

-- What is left of a text behind the longest front that passes a spelling, read from the left: a function for each word
-- of `Spelling`.

abbrev pub first_of : (ℕ → Bool) → List ℕ → Option (List ℕ)
first_of class [] = None
first_of class (b ∷ bs) = cond (class b) (Some bs) None

abbrev pub one_rest : (ℕ → Bool) → (List ℕ → Option (List ℕ)) → List ℕ → Option (List ℕ)
one_rest class rest text = option_and_then rest (first_of class text)

abbrev pub byte_rest : ℕ → (List ℕ → Option (List ℕ)) → List ℕ → Option (List ℕ)
byte_rest c rest text = one_rest (λ b. b == c) rest text

abbrev pub skip : (ℕ → Bool) → List ℕ → List ℕ
skip class text = drop (prefix_len class text) text

abbrev pub many_rest : (ℕ → Bool) → (List ℕ → Option (List ℕ)) → List ℕ → Option (List ℕ)
many_rest class rest text = rest (skip class text)

abbrev pub shorter : Option (List ℕ) → Option (List ℕ) → Option (List ℕ)
shorter None second = second
shorter (Some first) None = Some first
shorter (Some first) (Some second) = if nat_lt (length second) (length first) then Some second else Some first

abbrev pub either_rest : (List ℕ → Option (List ℕ)) → (List ℕ → Option (List ℕ)) → List ℕ → Option (List ℕ)
either_rest first second text = shorter (first text) (second text)

abbrev pub digits_rest : List ℕ → Option (List ℕ)
digits_rest = one_rest is_ascii_digit (many_rest is_ascii_digit Some)

abbrev pub plain_name_rest : List ℕ → Option (List ℕ)
plain_name_rest = one_rest is_name_first (many_rest is_name_byte Some)

abbrev pub quoted_name_rest : List ℕ → Option (List ℕ)
quoted_name_rest = byte_rest 34 (one_rest is_quotable (many_rest is_quotable (byte_rest 34 Some)))

abbrev pub quoted_symbol_rest : List ℕ → Option (List ℕ)
quoted_symbol_rest =
    byte_rest 34 (many_rest is_ascii_digit (one_rest is_quotable (many_rest is_quotable (byte_rest 34 Some))))

abbrev pub plain_label_rest : List ℕ → Option (List ℕ)
plain_label_rest = one_rest is_name_first (many_rest is_name_byte (byte_rest 58 Some))

abbrev pub digit_label_rest : List ℕ → Option (List ℕ)
digit_label_rest = one_rest is_ascii_digit (many_rest is_ascii_digit (byte_rest 58 Some))

abbrev pub quoted_label_rest : List ℕ → Option (List ℕ)
quoted_label_rest =
    byte_rest 34 (one_rest is_quotable (many_rest is_quotable (byte_rest 34 (byte_rest 58 Some))))

abbrev pub content_rest : ℕ → List ℕ → Option (List ℕ)
content_rest owed [] = None
content_rest zero (b ∷ bs) =
    if b == 34 then Some bs
    else if b == 92 then content_rest 2 bs
    else if is_string_byte b then content_rest 0 bs
    else None
content_rest (suc owed) (b ∷ bs) = if is_ascii_hexdigit b then content_rest owed bs else None

unfoldable pub word_rest : List ℕ → Option (List ℕ)
word_rest = one_rest is_word_first (many_rest is_name_byte Some)

unfoldable pub number_rest : List ℕ → Option (List ℕ)
number_rest = either_rest digits_rest (byte_rest 45 digits_rest)

unfoldable pub global_rest : List ℕ → Option (List ℕ)
global_rest = byte_rest 64 (either_rest plain_name_rest quoted_symbol_rest)

unfoldable pub local_rest : List ℕ → Option (List ℕ)
local_rest = byte_rest 37 (either_rest plain_name_rest (either_rest digits_rest quoted_name_rest))

unfoldable pub label_rest : List ℕ → Option (List ℕ)
label_rest = either_rest plain_label_rest (either_rest digit_label_rest quoted_label_rest)

unfoldable pub string_rest : List ℕ → Option (List ℕ)
string_rest = byte_rest 34 (many_rest is_string_byte (byte_rest 34 Some))

unfoldable pub bytes_rest : List ℕ → Option (List ℕ)
bytes_rest = byte_rest 99 (byte_rest 34 (content_rest 0))

unfoldable pub group_rest : List ℕ → Option (List ℕ)
group_rest = byte_rest 35 digits_rest

abbrev pub rest_of : TokenKind → List ℕ → Option (List ℕ)
rest_of Word = word_rest
rest_of Number = number_rest
rest_of Global = global_rest
rest_of Local = local_rest
rest_of Label = label_rest
rest_of Str = string_rest
rest_of Bytes = bytes_rest
rest_of Group = group_rest
rest_of Mark = byte_rest 33 Some
rest_of Sign = one_rest is_sign Some

-- how many bytes stand before what is left, 0 where nothing passes
abbrev pub taken : List ℕ → Option (List ℕ) → ℕ
taken text None = 0
taken text (Some rest) = length text - length rest

-- the number of bytes of the longest token of this kind at the front, 0 where there is none
unfoldable pub front : TokenKind → List ℕ → ℕ
front kind text = taken text (rest_of kind text)
