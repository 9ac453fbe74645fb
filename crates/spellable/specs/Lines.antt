-- What stands behind a line, and which notes can be named in it.
use Rattle.std.specs.Prelude.{◌≡◌, false, List, Some, is_some}
use Rattle.ir_lex.specs.Tokens.{Token, Word, Number, Global, Local, Label, Str, Bytes, Group, Mark, Sign}
use Rattle.ir_tree.specs.declared.types.Prof.{Prof}
use Rattle.ir_grammar.specs.Words.{Tokens, is_sign, first_is}
use Rattle.ir_grammar.specs.Past.{past_meaning}
use Rattle.ir_grammar.specs.Notes.{Nodes, note_of}
use Rattle.ir_grammar.specs.declared.words.Place.TheVariants as places
use Rattle.canonical_text.specs.Notes.{number_of}
use Rattle.spellable.specs.Values.{Each, IsLocal, IsGlobal, IsCount}

-- no comma stands at the front
abbrev pub NoComma : Tokens → Type 0
NoComma others = first_is (is_sign 44) others ≡ false

-- what may follow a line: no comma, and no word that is read past behind a call
pub record Follows (others : Tokens) : Type 0 where
  pub comma : NoComma others
  pub past : first_is (λ t. is_some (past_meaning places.Function t)) others ≡ false

-- the note's number among these has a node in the table, and it is the note's
pub record IsKept (nodes : Nodes) (list : List Prof) (note : Prof) : Type 0 where
  pub number : IsCount (number_of list note)
  pub node : note_of nodes (number_of list note) ≡ Some note

-- the names of a token are such as are spelled
abbrev pub IsRead : Token → Type 0
IsRead (Word text) = Unit {0}
IsRead (Number minus magnitude) = Unit {0}
IsRead (Global name) = IsGlobal name
IsRead (Local name) = IsLocal name
IsRead (Label name) = IsLocal name
IsRead (Str text) = Unit {0}
IsRead (Bytes bytes) = Unit {0}
IsRead (Group digits) = Unit {0}
IsRead Mark = Unit {0}
IsRead (Sign byte) = Unit {0}

abbrev pub AllRead : Tokens → Type 0
AllRead ts = Each IsRead ts
