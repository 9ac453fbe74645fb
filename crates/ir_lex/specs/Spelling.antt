use Rattle.std.specs.Prelude.{◌≡◌, ℕ, zero, suc, ◌<◌, ◌≤◌, Bool, true, false, ◌&&◌, ◌||◌, ◌==◌, cond, if◌then◌else◌, List, [], ◌∷◌, length, take}
use Rattle.std.specs.Char.{is_ascii_digit, is_ascii_hexdigit}
use Rattle.ir_tree.specs.Spelling.{is_word_first, is_name_first, is_name_byte, is_quotable}
use Rattle.ir_lex.specs.Classes.{is_string_byte, is_blank, is_sign}
use Rattle.ir_lex.specs.declared.token.TokenKind.{TokenKind}
use Rattle.ir_lex.specs.declared.token.TokenKind.TheVariants.{Word, Number, Global, Local, Label, Str, Bytes, Group, Mark, Sign}

-- How a token of each kind is spelled. A spelling is a test of all the bytes of a token, put together from these words.

-- no byte is left
abbrev pub ends : List ℕ → Bool
ends [] = true
ends (b ∷ bs) = false

-- one byte of a class, and then the rest
abbrev pub one : (ℕ → Bool) → (List ℕ → Bool) → List ℕ → Bool
one class rest [] = false
one class rest (b ∷ bs) = class b && rest bs

-- this very byte, and then the rest
abbrev pub byte : ℕ → (List ℕ → Bool) → List ℕ → Bool
byte c rest bs = one (λ b. b == c) rest bs

-- as many bytes of a class as stand there, and then the rest
abbrev pub many : (ℕ → Bool) → (List ℕ → Bool) → List ℕ → Bool
many class rest [] = rest []
many class rest (b ∷ bs) = cond (class b) (many class rest bs) (rest (b ∷ bs))

-- one spelling or another
abbrev pub either : (List ℕ → Bool) → (List ℕ → Bool) → List ℕ → Bool
either first second bs = first bs || second bs

-- one or more digits
abbrev pub is_digits : List ℕ → Bool
is_digits = one is_ascii_digit (many is_ascii_digit ends)

-- a name without quotes
abbrev pub is_plain_name : List ℕ → Bool
is_plain_name = one is_name_first (many is_name_byte ends)

-- a name in quotes, with at least one byte
abbrev pub is_quoted_name : List ℕ → Bool
is_quoted_name = byte 34 (one is_quotable (many is_quotable (byte 34 ends)))

-- a name in quotes, with at least one byte that is no digit
abbrev pub is_quoted_symbol : List ℕ → Bool
is_quoted_symbol = byte 34 (many is_ascii_digit (one is_quotable (many is_quotable (byte 34 ends))))

-- a name without quotes, digits or a name in quotes, and a colon
abbrev pub is_plain_label : List ℕ → Bool
is_plain_label = one is_name_first (many is_name_byte (byte 58 ends))

abbrev pub is_digit_label : List ℕ → Bool
is_digit_label = one is_ascii_digit (many is_ascii_digit (byte 58 ends))

abbrev pub is_quoted_label : List ℕ → Bool
is_quoted_label = byte 34 (one is_quotable (many is_quotable (byte 34 (byte 58 ends))))

-- The bytes behind the opening quote of a byte string, up to its closing one. The number says how many hexadecimal
-- digits the escape before still has to have.
abbrev pub is_byte_content : ℕ → List ℕ → Bool
is_byte_content owed [] = false
is_byte_content zero (b ∷ bs) =
    if b == 34 then ends bs
    else if b == 92 then is_byte_content 2 bs
    else is_string_byte b && is_byte_content 0 bs
is_byte_content (suc owed) (b ∷ bs) = is_ascii_hexdigit b && is_byte_content owed bs

-- the bytes are a token of this kind
abbrev pub spells : TokenKind → List ℕ → Bool
spells Word = one is_word_first (many is_name_byte ends)
spells Number = either is_digits (byte 45 is_digits)
spells Global = byte 64 (either is_plain_name is_quoted_symbol)
spells Local = byte 37 (either is_plain_name (either is_digits is_quoted_name))
spells Label = either is_plain_label (either is_digit_label is_quoted_label)
spells Str = byte 34 (many is_string_byte (byte 34 ends))
spells Bytes = byte 99 (byte 34 (is_byte_content 0))
spells Group = byte 35 is_digits
spells Mark = byte 33 ends
spells Sign = one is_sign ends

-- What is left of a text behind blanks and comments. The flag says that the text begins inside a comment, which goes
-- from a `;` to the end of the line.
abbrev pub after_gap : Bool → List ℕ → List ℕ
after_gap comment [] = []
after_gap true (b ∷ bs) = if b == 10 then after_gap false bs else after_gap true bs
after_gap false (b ∷ bs) =
    if is_blank b then after_gap false bs
    else if b == 59 then after_gap true bs
    else b ∷ bs

-- no token longer than n stands at the front
abbrev pub NoneLonger : List ℕ → ℕ → Type 0
NoneLonger text n = (kind : TokenKind) (m : ℕ) → n < m → m ≤ length text → spells kind (take m text) ≡ false

-- The place of a kind in the list of kinds. No two kinds spell the same bytes, so the order decides nothing; that the
-- first kind in it is taken makes the token unique by definition.
abbrev pub rank : TokenKind → ℕ
rank Word = 0
rank Number = 1
rank Global = 2
rank Local = 3
rank Label = 4
rank Str = 5
rank Bytes = 6
rank Group = 7
rank Mark = 8
rank Sign = 9

-- the longest token at the front of the text has this kind and n bytes
pub record IsLongest (text : List ℕ) (kind : TokenKind) (n : ℕ) : Type 0 where
  pub some : 0 < n
  pub within : n ≤ length text
  pub spelled : spells kind (take n text) ≡ true
  pub none_longer : NoneLonger text n
  pub first : (k : TokenKind) → rank k < rank kind → spells k (take n text) ≡ false
