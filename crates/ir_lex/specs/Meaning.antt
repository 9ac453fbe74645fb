use Rattle.std.specs.Prelude.{◌≡◌, ℕ, zero, suc, ◌+◌, ◌-◌, ◌*◌, ◌%◌, Bool, false, ◌==◌, if◌then◌else◌, List, [], ◌∷◌, length, take, drop, slice_index}
use Rattle.std.specs.Char.{digit_value}
use Rattle.std.specs.Str.Parse.{digits_value}
use Rattle.ir_lex.specs.declared.token.TokenKind.{TokenKind}
use Rattle.ir_lex.specs.declared.token.TokenKind.TheVariants.{Word, Number, Global, Local, Label, Str, Bytes, Group, Mark, Sign}
use Rattle.ir_lex.specs.Tokens as token
use Rattle.ir_lex.specs.Tokens.{Token}
use Rattle.ir_lex.specs.Spelling.{after_gap, IsLongest}

-- What the bytes of a token mean.

-- the bytes but the first and the last
abbrev pub between : List ℕ → List ℕ
between bytes = take (length bytes - 2) (drop 1 bytes)

-- a name without the quotes that may stand around it
abbrev pub unquoted : List ℕ → List ℕ
unquoted name = if slice_index name 0 == 34 then between name else name

-- The bytes that the content of a byte string means. The first number says how many digits the escape before still has
-- to have, the second is the value of those that it has had, as a byte.
abbrev pub decoded : ℕ → ℕ → List ℕ → List ℕ
decoded owed value [] = []
decoded zero value (b ∷ bs) = if b == 92 then decoded 2 0 bs else b ∷ decoded 0 0 bs
decoded (suc zero) value (b ∷ bs) = (16 * value + digit_value b) % 256 ∷ decoded 0 0 bs
decoded (suc (suc owed)) value (b ∷ bs) = decoded (suc owed) ((16 * value + digit_value b) % 256) bs

abbrev pub is_negative : List ℕ → Bool
is_negative bytes = slice_index bytes 0 == 45

-- the digits of a number
abbrev pub digits_of : List ℕ → List ℕ
digits_of bytes = if is_negative bytes then drop 1 bytes else bytes

abbrev pub meaning : TokenKind → List ℕ → Token
meaning Word bytes = token.Word bytes
meaning Number bytes = token.Number (is_negative bytes) (digits_value 10 (digits_of bytes))
meaning Global bytes = token.Global (unquoted (drop 1 bytes))
meaning Local bytes = token.Local (unquoted (drop 1 bytes))
meaning Label bytes = token.Label (unquoted (take (length bytes - 1) bytes))
meaning Str bytes = token.Str (between bytes)
meaning Bytes bytes = token.Bytes (decoded 0 0 (between (drop 1 bytes)))
meaning Group bytes = token.Group (drop 1 bytes)
meaning Mark bytes = token.Mark
meaning Sign bytes = token.Sign (slice_index bytes 0)

-- The text is spelled by exactly these tokens: behind each gap the longest token stands, and behind the last one there
-- are only blanks and comments.
abbrev pub Lexes : List ℕ → List Token → Type 0
Lexes text [] = after_gap false text ≡ []
Lexes text (t ∷ ts) =
    let ahead = after_gap false text in
    (kind : TokenKind) × ((n : ℕ) × (IsLongest ahead kind n × (t ≡ meaning kind (take n ahead)) × Lexes (drop n ahead) ts))
