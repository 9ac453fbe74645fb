-- Which tokens can be written, and what the text of pieces is cut into.
use Rattle.std.specs.Prelude.{◌≡◌, ◌^◌, Bool, true, false, ◌&&◌, nat_lt, List, [], ◌∷◌}
use Rattle.ir_tree.specs.Spelling.{is_quotable}
use Rattle.ir_lex.specs.declared.token.TokenKind.{TokenKind}
use Rattle.ir_lex.specs.declared.token.TokenKind.TheVariants as kinds
use Rattle.ir_lex.specs.Tokens.{Token, Word, Number, Global, Local, Label, Str, Bytes, Group, Mark, Sign}
use Rattle.ir_lex.specs.Spelling.{ends, many, spells}
use Rattle.ir_lex.specs.Meaning.{Lexes}
use Rattle.text_pieces.specs.Written.{written}
use Rattle.text_pieces.specs.Pieces.{Piece, Closed, Alone, Bang, text_of, tokens_before}

abbrev pub kind_of : Token → TokenKind
kind_of (Word text) = kinds.Word
kind_of (Number minus magnitude) = kinds.Number
kind_of (Global name) = kinds.Global
kind_of (Local name) = kinds.Local
kind_of (Label name) = kinds.Label
kind_of (Str text) = kinds.Str
kind_of (Bytes bytes) = kinds.Bytes
kind_of (Group digits) = kinds.Group
kind_of Mark = kinds.Mark
kind_of (Sign byte) = kinds.Sign

-- what is written of the token is spelled so. Numbers are below 2^64, strings have bytes of names alone; signs are pieces
-- by themselves
abbrev pub can_write : Token → Bool
can_write (Word text) = spells kinds.Word text
can_write (Number minus magnitude) = nat_lt magnitude (2 ^ 64)
can_write (Global name) = spells kinds.Global (written (Global name))
can_write (Local name) = spells kinds.Local (written (Local name))
can_write (Label name) = spells kinds.Label (written (Label name))
can_write (Str text) = many is_quotable ends text
can_write (Bytes bytes) = spells kinds.Bytes (written (Bytes bytes))
can_write (Group digits) = false
can_write Mark = false
can_write (Sign byte) = false

abbrev pub can_write_all : List Piece → Bool
can_write_all [] = true
can_write_all (Closed t stop ∷ ps) = can_write t && can_write_all ps
can_write_all (Alone stop ∷ ps) = can_write_all ps
can_write_all (Bang ∷ ps) = can_write_all ps

-- The text of pieces whose tokens can be written is cut into exactly these tokens.
abbrev pub PiecesAreCut : Type 0
PiecesAreCut = (ps : List Piece) → can_write_all ps ≡ true → Lexes (text_of ps) (tokens_before ps [])
