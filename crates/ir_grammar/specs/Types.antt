-- Types and operands (LLVM Language Reference, "Type System" and "Constants").
use Rattle.std.specs.Prelude.{ℕ, Bool, true, false, cond, not, ◌&&◌, List, [], ◌∷◌, length, Option, Some, None, codes, nat_eq, nat_le}
use Rattle.std.specs.Option.{option_map}
use Rattle.ir_lex.specs.Tokens.{Token, Word, Number, Global, Local, Bytes, Sign}
use Rattle.ir_tree.specs.Types.{literal_of}
use Rattle.ir_tree.specs.declared.types.Ty.{Ty}
use Rattle.ir_tree.specs.declared.types.Ty.TheVariants.{I1, I8, I16, I32, I64, Ptr}
use Rattle.ir_tree.specs.declared.types.Ret.{Ret}
use Rattle.ir_tree.specs.declared.types.Ret.TheVariants.{Void, Value}
use Rattle.ir_tree.specs.declared.types.MemTy.{MemTy}
use Rattle.ir_tree.specs.declared.types.MemTy.TheVariants.{Scalar, Array}
use Rattle.ir_tree.specs.declared.types.Operand.{Operand}
use Rattle.ir_tree.specs.declared.types.Operand.TheVariants as operands
use Rattle.ir_grammar.specs.Rules.{Rule, pure, provided, one, many, TakesToken, then_takes, ◌>>=◌, ◌>>◌}
use Rattle.ir_grammar.specs.Tables.{by_word, type_words, type_word}
use Rattle.ir_grammar.specs.Words.{Tokens, same, when, is_sign, first_is, word, sign, sign_takes, count, this_count}

-- # Types of values

-- T
abbrev pub type_of : List ℕ → Option Ty
type_of text = by_word type_words text

abbrev pub type_meaning : Token → Option Ty
type_meaning (Word text) = type_of text
type_meaning _ = None

unfoldable pub value_type : Rule Token Ty
value_type = one type_meaning

-- a type that is given
abbrev pub is_type : Ty → Token → Bool
is_type ty (Word text) = same text (type_word ty)
is_type ty _ = false

unfoldable pub this_type : Ty → Rule Token (Unit {0})
this_type ty = one (λ t. when (is_type ty t) tt)

-- RT: `void` or T
abbrev pub return_of : List ℕ → Option Ret
return_of text = cond (same text (codes "void")) (Some Void) (option_map Value (type_of text))

abbrev pub return_meaning : Token → Option Ret
return_meaning (Word text) = return_of text
return_meaning _ = None

unfoldable pub return_type : Rule Token Ret
return_type = one return_meaning

-- # Types of memory

-- the most arrays that stand in one another
abbrev pub depth_most : ℕ
depth_most = 16

-- `[N x`, before the type of the elements
unfoldable pub dimension : Rule Token ℕ
dimension = do
  sign 91
  n ← count
  word (codes "x")
  pure n

pub dimension_takes : TakesToken dimension
unfolding dimension
dimension_takes = then_takes _ (sign_takes 91)

unfoldable pub dimensions : Rule Token (List ℕ)
dimensions = many (first_is (is_sign 91)) dimension dimension_takes

-- a closing bracket for each dimension
abbrev pub closings : List ℕ → Rule Token (Unit {0})
closings [] = pure tt
closings (n ∷ ns) = sign 93 >> closings ns

-- MT: T or `[N x MT]`, at most 16 arrays deep; its dimensions, the outermost first, and the type inside
unfoldable pub shape : Rule Token (List ℕ × Ty)
shape = do
  list ← dimensions
  ns ← provided (when (nat_le (length list) depth_most) list)
  ty ← value_type
  closings ns
  pure (ns, ty)

-- a type of memory by its dimensions
abbrev pub memory_of : List ℕ → Ty → MemTy
memory_of [] ty = Scalar ty
memory_of (n ∷ ns) ty = Array n (memory_of ns ty)

unfoldable pub memory_type : Rule Token MemTy
memory_type = shape >>= λ s. pure (memory_of s.0 s.1)

-- a type of memory that is given
abbrev pub this_memory : List ℕ → Ty → Rule Token (Unit {0})
this_memory [] ty = this_type ty
this_memory (n ∷ ns) ty = do
  sign 91
  this_count n
  word (codes "x")
  this_memory ns ty
  sign 93

-- # Literals and operands

-- `true` and `false` are spelled at `i1`
abbrev pub truth_words : List (List ℕ × ℕ)
truth_words = (codes "true", 1) ∷ (codes "false", 0) ∷ []

abbrev pub truth_of : List ℕ → Option ℕ
truth_of text = by_word truth_words text

abbrev pub literal_word : Ty → List ℕ → Option ℕ
literal_word I1 text = truth_of text
literal_word I8 text = None
literal_word I16 text = None
literal_word I32 text = None
literal_word I64 text = None
literal_word Ptr text = None

-- a literal of the type
abbrev pub literal_meaning : Ty → Token → Option ℕ
literal_meaning ty (Number minus magnitude) = literal_of ty minus magnitude
literal_meaning ty (Word text) = literal_word ty text
literal_meaning ty _ = None

unfoldable pub literal : Ty → Rule Token ℕ
literal ty = one (literal_meaning ty)

abbrev pub operand_word : Ty → List ℕ → Option Operand
operand_word ty text = cond (same text (codes "null")) (Some operands.Null) (option_map operands.Int (literal_word ty text))

-- V: a local, a global, `null` or a literal of the type
abbrev pub operand_meaning : Ty → Token → Option Operand
operand_meaning ty (Local name) = Some (operands.Local name)
operand_meaning ty (Global name) = Some (operands.Global name)
operand_meaning ty (Number minus magnitude) = option_map operands.Int (literal_of ty minus magnitude)
operand_meaning ty (Word text) = operand_word ty text
operand_meaning ty _ = None

unfoldable pub operand : Ty → Rule Token Operand
operand ty = one (operand_meaning ty)

-- `T V`
unfoldable pub typed_operand : Rule Token (Ty × Operand)
typed_operand = do
  ty ← value_type
  value ← operand ty
  pure (ty, value)
