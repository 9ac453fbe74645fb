-- Terminators (LLVM Language Reference, "Terminator Instructions").
use Rattle.std.specs.Prelude.{ℕ, List, [], ◌∷◌, Option, Some, None, codes}
use Rattle.ir_lex.specs.Tokens.{Token, Word}
use Rattle.ir_tree.specs.declared.types.Ty.{Ty}
use Rattle.ir_tree.specs.declared.types.Ty.TheVariants.{I1}
use Rattle.ir_tree.specs.declared.types.Ret.{Ret}
use Rattle.ir_tree.specs.declared.types.Ret.TheVariants.{Void, Value}
use Rattle.ir_tree.specs.declared.types.Term.{Term}
use Rattle.ir_tree.specs.declared.types.Term.TheVariants as terms
use Rattle.ir_grammar.specs.Rules.{Rule, pure, one, many, TakesToken, one_takes, then_takes, ◌>>=◌, ◌>>◌}
use Rattle.ir_grammar.specs.Tables.{by_word, ending_words}
use Rattle.ir_grammar.specs.Words.{first_is, word, sign, local}
use Rattle.ir_grammar.specs.Types.{is_type, this_type, return_type, literal, operand, typed_operand}
use Rattle.ir_grammar.specs.Past.{tail}
use Rattle.ir_grammar.specs.Notes.{Nodes, noted}
use Rattle.ir_grammar.specs.declared.words.Ending.{Ending}
use Rattle.ir_grammar.specs.declared.words.Ending.TheVariants as endings
use Rattle.ir_grammar.specs.declared.words.Tail.TheVariants as tails
use Rattle.ir_grammar.specs.declared.words.NoteKind.TheVariants as kinds

-- `label %b`
unfoldable pub target : Rule Token (List ℕ)
target = word (codes "label") >> local

-- what stands behind `br`: `label`, or `i1` of a branch with a condition
pub data Branching : Type 0 where
  Jumps : Branching
  Chooses : Branching

abbrev pub branch_words : List (List ℕ × Branching)
branch_words = (codes "label", Jumps) ∷ (codes "i1", Chooses) ∷ []

abbrev pub branching : Token → Option Branching
branching (Word text) = by_word branch_words text
branching _ = None

-- `%b`, behind `br label`
unfoldable pub jump : Rule Token Term
jump = do
  to ← local
  tail tails.Plain
  pure (terms.Br to)

-- `V, label %b, label %b`, behind `br i1`
unfoldable pub branch : Nodes → Rule Token Term
branch nodes = do
  condition ← operand I1
  sign 44
  first ← target
  sign 44
  second ← target
  prof ← noted nodes kinds.Weights
  pure (terms.CondBr condition first second prof)

abbrev pub br_behind : Nodes → Branching → Rule Token Term
br_behind nodes Jumps = jump
br_behind nodes Chooses = branch nodes

unfoldable pub br : Nodes → Rule Token Term
br nodes = one branching >>= br_behind nodes

-- `T N, label %b`, of the switch's type
unfoldable pub case : Ty → Rule Token (ℕ × List ℕ)
case ty = do
  this_type ty
  n ← literal ty
  sign 44
  to ← target
  pure (n, to)

pub case_takes : (ty : Ty) → TakesToken (case ty)
unfolding case this_type
case_takes ty = then_takes _ (one_takes _)

unfoldable pub cases : Ty → Rule Token (List (ℕ × List ℕ))
cases ty = many (first_is (is_type ty)) (case ty) (case_takes ty)

-- `T V, label %b [ T N, label %b .. ]`
unfoldable pub switch : Nodes → Rule Token Term
switch nodes = do
  (ty, value) ← typed_operand
  sign 44
  default ← target
  sign 91
  list ← cases ty
  sign 93
  prof ← noted nodes kinds.Weights
  pure (terms.Switch ty value default list prof)

unfoldable pub no_value : Rule Token Term
no_value = tail tails.Plain >> pure (terms.Ret None)

-- the value that is returned, behind its type
unfoldable pub one_value : Ty → Rule Token Term
one_value ty = do
  value ← operand ty
  tail tails.Plain
  pure (terms.Ret (Some (ty, value)))

abbrev pub returned : Ret → Rule Token Term
returned Void = no_value
returned (Value ty) = one_value ty

-- `void` or `T V`
unfoldable pub ret : Rule Token Term
ret = return_type >>= returned

unfoldable pub unreachable : Rule Token Term
unreachable = tail tails.Plain >> pure terms.Unreachable

abbrev pub ending : Nodes → Ending → Rule Token Term
ending nodes endings.Br = br nodes
ending nodes endings.Switch = switch nodes
ending nodes endings.Ret = ret
ending nodes endings.Unreachable = unreachable

abbrev pub ending_meaning : Token → Option Ending
ending_meaning (Word text) = by_word ending_words text
ending_meaning _ = None

unfoldable pub terminator : Nodes → Rule Token Term
terminator nodes = one ending_meaning >>= ending nodes
