-- The module text (LLVM Language Reference, "Module Structure"), as a grammar over tokens. Each production says in its own
-- lines what it reads, and its `Spells` is the relation that they describe.
--
-- A choice is made by one token: the token has a meaning, and the meaning says what stands behind it. So its relation is
-- the plain sum over the meanings, and no test stands beside it. A part that may be missing, and each item of a list,
-- stands where its own first token stands.
use Rattle.std.specs.Prelude.{ℕ, Bool, true, false, List, [], ◌∷◌, filter_map, Option, Some, None, codes, not, nat_eq}
use Rattle.ir_lex.specs.Tokens.{Token, Word, Number, Global, Str, Group, Mark, Sign}
use Rattle.ir_tree.specs.declared.types.Global1.{Global1}
use Rattle.ir_tree.specs.declared.types.Function.{Function}
use Rattle.ir_tree.specs.declared.types.Module.{Module}
use Rattle.ir_grammar.specs.Rules.{Rule, pure, provided, one, either, many, TakesToken, one_takes, then_takes, ◌>>=◌, ◌>>◌}
use Rattle.ir_grammar.specs.Tables.{by_word, keyword_words}
use Rattle.ir_grammar.specs.Words.{Tokens, same, when, is_sign, first_is, any_left, sign, mark, flag, any_word, string}
use Rattle.ir_grammar.specs.Past.{balanced}
use Rattle.ir_grammar.specs.Notes.{Nodes, nodes_of}
use Rattle.ir_grammar.specs.Functions.{definition, declaration}
use Rattle.ir_grammar.specs.Variables.{variable}
use Rattle.ir_grammar.specs.declared.words.Keyword.{Keyword}
use Rattle.ir_grammar.specs.declared.words.Keyword.TheVariants as keywords
use Rattle.ir_grammar.specs.declared.parts.Part.{Part}
use Rattle.ir_grammar.specs.declared.parts.Part.TheVariants as parts

-- # Parts that are read past

-- what stands behind `WORD =`: a string, where the word is `source_filename`, or `comdat WORD`
pub data Assignment : Type 0 where
  SourceName : Assignment
  Comdat : Assignment

abbrev pub assignment_meaning : List ℕ → Token → Option Assignment
assignment_meaning name (Str _) = when (same name (codes "source_filename")) SourceName
assignment_meaning name (Word text) = when (same text (codes "comdat")) Comdat
assignment_meaning name _ = None

unfoldable pub comdat : Rule Token Part
comdat = any_word >> pure parts.Nothing

abbrev pub assignment_behind : Assignment → Rule Token Part
assignment_behind SourceName = pure parts.Nothing
assignment_behind Comdat = comdat

unfoldable pub assigned : List ℕ → Rule Token Part
assigned name = one (assignment_meaning name) >>= assignment_behind

unfoldable pub assignment : List ℕ → Rule Token Part
assignment name = sign 61 >> assigned name

-- `WORD = STRING`, behind `target`
unfoldable pub target_text : Rule Token Part
target_text = do
  any_word
  sign 61
  string
  pure parts.Nothing

abbrev pub group_meaning : Token → Option (Unit {0})
group_meaning (Group _) = Some tt
group_meaning _ = None

unfoldable pub group : Rule Token (Unit {0})
group = one group_meaning

-- `#N = { tokens }`, behind `attributes`
unfoldable pub attribute_group : Rule Token Part
attribute_group = do
  group
  sign 61
  sign 123
  balanced 123
  pure parts.Nothing

-- what a node is: `{ tokens }`, or `WORD( tokens )`
pub data Content : Type 0 where
  Tuple : Content
  Special : Content

abbrev pub content_meaning : Token → Option Content
content_meaning (Sign byte) = when (nat_eq byte 123) Tuple
content_meaning (Word _) = Some Special
content_meaning _ = None

-- `tokens }`
unfoldable pub tuple : Rule Token Part
tuple = balanced 123 >> pure parts.Nothing

-- `( tokens )`
unfoldable pub special : Rule Token Part
special = do
  sign 40
  balanced 40
  pure parts.Nothing

abbrev pub content_behind : Content → Rule Token Part
content_behind Tuple = tuple
content_behind Special = special

unfoldable pub content : Rule Token Part
content = one content_meaning >>= content_behind

-- `= !{ tokens }`, behind `!name`
unfoldable pub named_metadata : Rule Token Part
named_metadata = do
  sign 61
  mark
  sign 123
  tuple

-- `= [distinct] !{ tokens }` or `= [distinct] !WORD( tokens )`, behind `!N`
unfoldable pub node : Rule Token Part
node = do
  sign 61
  flag (codes "distinct")
  mark
  content

-- what a mark begins: named metadata, or a node
pub data Metadata : Type 0 where
  OfName : Metadata
  OfNumber : Metadata

abbrev pub metadata_meaning : Token → Option Metadata
metadata_meaning (Word _) = Some OfName
metadata_meaning (Number minus _) = when (not minus) OfNumber
metadata_meaning _ = None

abbrev pub metadata_behind : Metadata → Rule Token Part
metadata_behind OfName = named_metadata
metadata_behind OfNumber = node

unfoldable pub metadata : Rule Token Part
metadata = one metadata_meaning >>= metadata_behind

-- # Parts

unfoldable pub declared : Rule Token Part
declared = declaration >>= λ f. pure (parts.Function f)

unfoldable pub defined : Nodes → Rule Token Part
defined nodes = definition nodes >>= λ f. pure (parts.Function f)

abbrev pub keyword_behind : Nodes → Keyword → Rule Token Part
keyword_behind nodes keywords.Target = target_text
keyword_behind nodes keywords.Attributes = attribute_group
keyword_behind nodes keywords.Declare = declared
keyword_behind nodes keywords.Define = defined nodes

unfoldable pub keyword : Nodes → List ℕ → Rule Token Part
keyword nodes text = provided (by_word keyword_words text) >>= keyword_behind nodes

-- a part that begins with a word: an `=` stands behind the word, or it is a keyword
unfoldable pub word_part : Nodes → List ℕ → Rule Token Part
word_part nodes text = either (first_is (is_sign 61)) (assignment text) (keyword nodes text)

unfoldable pub variable_part : List ℕ → Rule Token Part
variable_part name = variable name >>= λ g. pure (parts.Variable g)

-- a part begins with the name of a variable, a mark or a word
pub data Beginning : Type 0 where
  OfVariable : List ℕ → Beginning
  OfMark : Beginning
  OfWord : List ℕ → Beginning

abbrev pub part_meaning : Token → Option Beginning
part_meaning (Global name) = Some (OfVariable name)
part_meaning Mark = Some OfMark
part_meaning (Word text) = Some (OfWord text)
part_meaning _ = None

abbrev pub part_behind : Nodes → Beginning → Rule Token Part
part_behind nodes (OfVariable name) = variable_part name
part_behind nodes OfMark = metadata
part_behind nodes (OfWord text) = word_part nodes text

unfoldable pub part : Nodes → Rule Token Part
part nodes = one part_meaning >>= part_behind nodes

pub part_takes : (nodes : Nodes) → TakesToken (part nodes)
unfolding part
part_takes nodes = then_takes _ (one_takes part_meaning)

-- # Modules

abbrev pub variable_of : Part → Option Global1
variable_of (parts.Variable g) = Some g
variable_of (parts.Function f) = None
variable_of parts.Nothing = None

abbrev pub function_of : Part → Option Function
function_of (parts.Variable g) = None
function_of (parts.Function f) = Some f
function_of parts.Nothing = None

abbrev pub module_of : List Part → Module
module_of list = record { globals = filter_map variable_of list; functions = filter_map function_of list }

-- any number of parts, where these are the nodes of the text
unfoldable pub «module» : Nodes → Rule Token Module
«module» nodes = many any_left (part nodes) (part_takes nodes) >>= λ list. pure (module_of list)

-- the tokens, all of them, spell the module, where its nodes are those that the tokens define
abbrev pub Spells : Tokens → Module → Type 0
Spells ts m = («module» (nodes_of ts)).Spells ts m []
