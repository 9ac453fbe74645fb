-- How values and types are written (LLVM Language Reference, "Constants" and "Type System").
use Rattle.std.specs.Prelude.{ℕ, ◌-◌, ◌^◌, Bool, true, false, cond, nat_eq, nat_lt, List, [], ◌∷◌, ◌++◌, Option, Some, None, codes}
use Rattle.ir_lex.specs.Tokens.{Token, Word, Number, Global, Local, Bytes}
use Rattle.ir_tree.specs.Sizes.{element_of, scalar_of}
use Rattle.ir_tree.specs.declared.types.Ty.{Ty}
use Rattle.ir_tree.specs.declared.types.Ty.TheVariants.{I1, I8, I16, I32, I64, Ptr}
use Rattle.ir_tree.specs.declared.types.MemTy.{MemTy, Array', Row_of-MemTy, end_of-MemTy, more_of-MemTy}
use Rattle.ir_tree.specs.declared.types.MemTy.TheVariants.{Scalar}
use Rattle.ir_tree.specs.declared.types.Operand.{Operand}
use Rattle.ir_tree.specs.declared.types.Operand.TheVariants as operands
use Rattle.ir_tree.specs.declared.types.Init.{Init, List', Row_of-Init, end_of-Init, more_of-Init}
use Rattle.ir_tree.specs.declared.types.Init.TheVariants as inits
use Rattle.text_pieces.specs.declared.stop.Stop.{Stop}
use Rattle.text_pieces.specs.declared.stop.Stop.TheVariants as stops
use Rattle.text_pieces.specs.Pieces.{Piece, Closed, Alone}
use Rattle.canonical_text.specs.Words.{type_word}

-- a word, and a blank behind it
abbrev pub spaced : List ℕ → List Piece → List Piece
spaced text ps = Closed (Word text) stops.Space ∷ ps

-- # Literals and operands

-- an integer of so many bits in signed decimal
abbrev pub signed_token : ℕ → ℕ → Token
signed_token width value = cond (nat_lt value (2 ^ (width - 1))) (Number false value) (Number true (2 ^ width - value))

abbrev pub truth_token : ℕ → Token
truth_token value = Word (cond (nat_eq value 0) (codes "false") (codes "true"))

-- a literal of the type; no text has one of a pointer
unfoldable pub literal_token : Ty → ℕ → Token
literal_token I1 value = truth_token value
literal_token I8 value = signed_token 8 value
literal_token I16 value = signed_token 16 value
literal_token I32 value = signed_token 32 value
literal_token I64 value = signed_token 64 value
literal_token Ptr value = Number false value

-- an operand, where its type is known
unfoldable pub operand_token : Ty → Operand → Token
operand_token ty (operands.Int value) = literal_token ty value
operand_token ty operands.Null = Word (codes "null")
operand_token ty (operands.Local name) = Local name
operand_token ty (operands.Global name) = Global name

-- `T V`
abbrev pub typed : Ty → Operand → Stop → List Piece → List Piece
typed ty value stop ps = spaced (type_word ty) (Closed (operand_token ty value) stop ∷ ps)

abbrev pub typed_pieces : Ty × Operand → Stop → List Piece
typed_pieces p stop = typed p.0 p.1 stop []

-- # Types of memory

-- T or `[N x MT]`
abbrev mutual
  pub memory_pieces : MemTy → Stop → List Piece
  memory_pieces (Scalar ty) stop = Closed (Word (type_word ty)) stop ∷ []
  memory_pieces (Array' count shape element) stop = Alone stops.OpenBracket ∷ Closed (Number false count) stops.Space ∷ spaced (codes "x") (element_pieces element ++ Alone stop ∷ [])

  pub element_pieces : {m : _} → Row_of-MemTy m → List Piece
  element_pieces end_of-MemTy = []
  element_pieces (more_of-MemTy mem rest) = memory_pieces mem stops.CloseBracket

-- # Initialisers

-- a literal at a type of memory; no text has one of an array
abbrev pub init_literal : Option Ty → ℕ → Token
init_literal None value = Number false value
init_literal (Some ty) value = literal_token ty value

-- what stands behind an item of a list, and whether a list has no items
abbrev pub row_stop : {m : _} → Row_of-Init m → Stop
row_stop end_of-Init = stops.CloseBracket
row_stop (more_of-Init value rest) = stops.Comma

abbrev pub is_bare : {m : _} → Row_of-Init m → Bool
is_bare end_of-Init = true
is_bare (more_of-Init value rest) = false

-- behind the items of a list: the bracket, where no item has it, and what stands behind the list
abbrev pub list_end : Bool → Stop → List Piece
list_end true stop = Alone stops.CloseBracket ∷ Alone stop ∷ []
list_end false stop = Alone stop ∷ []

-- an initialiser at a type of memory: a list has the type of the elements before each item, an external variable none
abbrev mutual
  pub init_pieces : MemTy → Init → Stop → List Piece
  init_pieces mem (inits.Int value) stop = Closed (init_literal (scalar_of mem) value) stop ∷ []
  init_pieces mem inits.Null stop = Closed (Word (codes "null")) stop ∷ []
  init_pieces mem (inits.Symbol name) stop = Closed (Global name) stop ∷ []
  init_pieces mem inits.Zero stop = Closed (Word (codes "zeroinitializer")) stop ∷ []
  init_pieces mem (inits.Bytes bytes) stop = Closed (Bytes bytes) stop ∷ []
  init_pieces mem (List' shape row) stop = Alone stops.OpenBracket ∷ (row_pieces (element_of mem) row ++ list_end (is_bare row) stop)
  init_pieces mem inits.External stop = Alone stop ∷ []

  pub row_pieces : {m : _} → MemTy → Row_of-Init m → List Piece
  row_pieces mem end_of-Init = []
  row_pieces mem (more_of-Init value rest) = memory_pieces mem stops.Space ++ init_pieces mem value (row_stop rest) ++ row_pieces mem rest

abbrev pub is_external : Init → Bool
is_external (inits.Int value) = false
is_external inits.Null = false
is_external (inits.Symbol name) = false
is_external inits.Zero = false
is_external (inits.Bytes bytes) = false
is_external (List' shape row) = false
is_external inits.External = true
