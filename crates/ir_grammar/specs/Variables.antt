-- Global variables and their initialisers (LLVM Language Reference, "Global Variables").
use Rattle.std.specs.Prelude.{ℕ, Bool, true, false, cond, List, [], ◌∷◌, Option, Some, None, codes, nat_eq}
use Rattle.std.specs.Option.{option_map, option_or}
use Rattle.ir_lex.specs.Tokens.{Token, Word, Number, Global, Bytes, Sign}
use Rattle.ir_tree.specs.Types.{literal_of}
use Rattle.ir_tree.specs.declared.types.Ty.{Ty}
use Rattle.ir_tree.specs.declared.types.Init.{Init}
use Rattle.ir_tree.specs.declared.types.Init.TheVariants as inits
use Rattle.ir_tree.specs.declared.types.Global1.{Global1}
use Rattle.ir_grammar.specs.Rules.{Rule, pure, one, ◌>>=◌, ◌>>◌}
use Rattle.ir_grammar.specs.Tables.{by_word, variable_words}
use Rattle.ir_grammar.specs.Words.{same, when, sign, listed}
use Rattle.ir_grammar.specs.Types.{shape, memory_of, this_memory, literal_word}
use Rattle.ir_grammar.specs.Past.{tail}
use Rattle.ir_grammar.specs.Instructions.{marked}
use Rattle.ir_grammar.specs.declared.words.Marks.TheVariants as marks
use Rattle.ir_grammar.specs.declared.words.Tail.TheVariants as tails

-- # Initialisers

-- the words that initialise at any type
abbrev pub init_words : List (List ℕ × Init)
init_words = (codes "null", inits.Null) ∷ (codes "zeroinitializer", inits.Zero) ∷ []

abbrev pub scalar_word : Ty → List ℕ → Option Init
scalar_word ty text = option_or (by_word init_words text) (option_map inits.Int (literal_word ty text))

-- one token that initialises a type without dimensions
abbrev pub scalar_init : Ty → Token → Option Init
scalar_init ty (Number minus magnitude) = option_map inits.Int (literal_of ty minus magnitude)
scalar_init ty (Word text) = scalar_word ty text
scalar_init ty (Global name) = Some (inits.Symbol name)
scalar_init ty (Bytes bytes) = Some (inits.Bytes bytes)
scalar_init ty _ = None

-- what begins the initialiser of an array: all of it, or the bracket of a list
pub data ArrayInit : Type 0 where
  Whole : Init → ArrayInit
  Lists : ArrayInit

abbrev pub array_init : Token → Option ArrayInit
array_init (Word text) = option_map Whole (by_word init_words text)
array_init (Global name) = Some (Whole (inits.Symbol name))
array_init (Bytes bytes) = Some (Whole (inits.Bytes bytes))
array_init (Sign byte) = when (nat_eq byte 91) Lists
array_init _ = None

-- the items of a list, up to its closing bracket
abbrev pub list_of : Rule Token Init → Rule Token Init
list_of item = listed 93 item >>= λ list. pure (inits.List list)

abbrev pub array_behind : Rule Token Init → ArrayInit → Rule Token Init
array_behind item (Whole x) = pure x
array_behind item Lists = list_of item

-- an initialiser of an array with such elements
abbrev pub array : Rule Token Init → Rule Token Init
array item = one array_init >>= array_behind item

unfoldable pub scalar : Ty → Rule Token Init
scalar ty = one (scalar_init ty)

-- INIT at a type of memory: a literal, `null`, `@name`, `zeroinitializer`, bytes, or, at an array type alone, a list in
-- brackets whose items are written with the type of the elements
abbrev pub init : List ℕ → Ty → Rule Token Init
init [] ty = scalar ty
init (n ∷ ns) ty = array (this_memory ns ty >> init ns ty)

-- an element with its type
abbrev pub element : List ℕ → Ty → Rule Token Init
element ns ty = this_memory ns ty >> init ns ty

-- # Variables

abbrev pub variable_meaning : Token → Option Bool
variable_meaning (Word text) = by_word variable_words text
variable_meaning _ = None

unfoldable pub variable_word : Rule Token Bool
variable_word = one variable_meaning

-- an external variable has no initialiser
abbrev pub initial : Bool → List ℕ → Ty → Rule Token Init
initial true ns ty = pure inits.External
initial false ns ty = init ns ty

-- `= global MT INIT` and its kin, behind the name
unfoldable pub variable : List ℕ → Rule Token Global1
variable name = do
  sign 61
  external ← marked marks.External
  constant ← variable_word
  (ns, ty) ← shape
  value ← initial external ns ty
  tail tails.Global
  pure (record { name = name; constant = constant; mem = memory_of ns ty; init = value })
