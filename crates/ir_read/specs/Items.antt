use Rattle.std.specs.Str.Parse.{digits_value}
use Rattle.ir_lex.specs.Tokens.{Token}
use Rattle.ir_lex.specs.Tokens as token
use Rattle.ir_lex.specs.Meaning.{decoded}
use Rattle.ir_read.specs.declared.item.Item.{Item}
use Rattle.ir_read.specs.declared.item.Item.TheVariants.{Word, Number, Global, Local, Label, Str, Bytes, Group, Mark, Sign}

-- the token of the grammar that an item stands for
abbrev pub token_of : Item → Token
token_of (Word text) = token.Word text.now
token_of (Number minus digits) = token.Number minus (digits_value 10 digits.now)
token_of (Global name) = token.Global name.now
token_of (Local name) = token.Local name.now
token_of (Label name) = token.Label name.now
token_of (Str text) = token.Str text.now
token_of (Bytes content) = token.Bytes (decoded 0 0 content.now)
token_of (Group digits) = token.Group digits.now
token_of Mark = token.Mark
token_of (Sign byte) = token.Sign byte
