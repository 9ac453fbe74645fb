-- How a token is written (LLVM Language Reference, "Identifiers" and "Constants"), each byte by its ASCII code.
use Rattle.std.specs.Prelude.{ℕ, ◌+◌, ◌/◌, ◌%◌, Bool, true, false, cond, ◌||◌, ◌&&◌, ◌==◌, nat_lt, nat_le, List, [], ◌∷◌, ◌++◌, decimal}
use Rattle.std.specs.List.{flat_map}
use Rattle.ir_tree.specs.Spelling.{global_text, local_text}
use Rattle.ir_lex.specs.Tokens.{Token, Word, Number, Global, Local, Label, Str, Bytes, Group, Mark, Sign}
use Rattle.text_pieces.specs.declared.stop.Stop.{Stop}
use Rattle.text_pieces.specs.declared.stop.Stop.TheVariants as stops

-- a comma and an equals sign have a blank behind them
abbrev pub stop_text : Stop → List ℕ
stop_text stops.Space = 32 ∷ []
stop_text stops.Line = 10 ∷ []
stop_text stops.Comma = 44 ∷ 32 ∷ []
stop_text stops.Equals = 61 ∷ 32 ∷ []
stop_text stops.OpenParen = 40 ∷ []
stop_text stops.CloseParen = 41 ∷ []
stop_text stops.OpenBracket = 91 ∷ []
stop_text stops.CloseBracket = 93 ∷ []
stop_text stops.OpenBrace = 123 ∷ []
stop_text stops.CloseBrace = 125 ∷ []

-- # Byte strings

-- the bytes that are written as a backslash and two digits: those outside of 0x20 to 0x7E, `"` and `\`
abbrev pub is_escaped : ℕ → Bool
is_escaped b = nat_lt b 32 || (b == 34 || (b == 92 || (nat_le 127 b && nat_le b 255)))

-- a hexadecimal digit, in upper case
abbrev pub hex_digit : ℕ → ℕ
hex_digit d = cond (nat_lt d 10) (48 + d) (55 + d)

unfoldable pub escaped : ℕ → List ℕ
escaped b = 92 ∷ hex_digit (b / 16) ∷ hex_digit (b % 16) ∷ []

-- a byte as it stands in a byte string
unfoldable pub byte_text : ℕ → List ℕ
byte_text b = cond (is_escaped b) (escaped b) (b ∷ [])

-- # Tokens

abbrev pub number_text : Bool → ℕ → List ℕ
number_text true magnitude = 45 ∷ decimal magnitude
number_text false magnitude = decimal magnitude

-- a name is written in quotes only where it has to be
abbrev pub written : Token → List ℕ
written (Word text) = text
written (Number minus magnitude) = number_text minus magnitude
written (Global name) = 64 ∷ global_text name
written (Local name) = 37 ∷ local_text name
written (Label name) = local_text name ++ 58 ∷ []
written (Str text) = 34 ∷ text ++ 34 ∷ []
written (Bytes bytes) = 99 ∷ 34 ∷ flat_map byte_text bytes ++ 34 ∷ []
written (Group digits) = 35 ∷ digits
written Mark = 33 ∷ []
written (Sign byte) = byte ∷ []
