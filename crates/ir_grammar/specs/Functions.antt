-- Functions and their blocks (LLVM Language Reference, "Functions").
use Rattle.std.specs.Prelude.{ℕ, zero, suc, Bool, true, false, cond, ◌||◌, List, [], ◌∷◌, length, filter, decimal, Option, Some, None}
use Rattle.ir_lex.specs.Tokens.{Token}
use Rattle.ir_tree.specs.Spelling.{is_empty, is_digits}
use Rattle.ir_tree.specs.declared.types.Ty.{Ty}
use Rattle.ir_tree.specs.declared.types.Block.{Block}
use Rattle.ir_tree.specs.declared.types.Function.{Function}
use Rattle.ir_grammar.specs.Rules.{Rule, pure, either, many_after, TakesToken, then_takes, ◌>>=◌, ◌>>◌}
use Rattle.ir_grammar.specs.Words.{is_label, is_local, first_is, sign, global, local, label, label_takes, listed}
use Rattle.ir_grammar.specs.Types.{value_type, return_type}
use Rattle.ir_grammar.specs.Past.{past_parts}
use Rattle.ir_grammar.specs.Notes.{Nodes, head_note}
use Rattle.ir_grammar.specs.Instructions.{instrs}
use Rattle.ir_grammar.specs.Terminators.{terminator}
use Rattle.ir_grammar.specs.declared.words.Place.TheVariants as places

-- # Blocks

-- instructions and a terminator, behind the block's label
unfoldable pub block_behind : Nodes → List ℕ → Rule Token Block
block_behind nodes name = do
  body ← instrs nodes
  end ← terminator nodes
  pure (record { label = name; instrs = body; term = end })

unfoldable pub block : Nodes → Rule Token Block
block nodes = label >>= block_behind nodes

pub block_takes : (nodes : Nodes) → TakesToken (block nodes)
unfolding block
block_takes nodes = then_takes _ label_takes

-- the first block has a number for its name where no label stands before it
unfoldable pub entry_label : ℕ → Rule Token (List ℕ)
entry_label n = either (first_is is_label) label (pure (decimal n))

unfoldable pub entry_block : Nodes → ℕ → Rule Token Block
entry_block nodes n = entry_label n >>= block_behind nodes

-- one or more blocks
unfoldable pub blocks : Nodes → ℕ → Rule Token (List Block)
blocks nodes n = do
  first ← entry_block nodes n
  many_after (first ∷ []) (first_is is_label) (block nodes) (block_takes nodes)

-- # Parameters

-- the name of a parameter; none is written where it has no name
unfoldable pub parameter_name : Rule Token (List ℕ)
parameter_name = either (first_is is_local) local (pure [])

-- `T [%a]`, with attributes
unfoldable pub parameter : Rule Token (Ty × List ℕ)
parameter = do
  ty ← value_type
  past_parts places.Value
  name ← parameter_name
  pure (ty, name)

-- a parameter without a name, or with a number
abbrev pub is_numbered : List ℕ → Bool
is_numbered name = is_empty name || is_digits name

-- the name of a parameter, where so many before it have none or a number
abbrev pub name_of : ℕ → List ℕ → List ℕ
name_of k name = cond (is_empty name) (decimal k) name

-- a parameter without a name is named by how many before it have none or a number; so many stood before these
abbrev pub named : ℕ → List (Ty × List ℕ) → List (Ty × List ℕ)
named k [] = []
named k (p ∷ ps) = (p.0, name_of k p.1) ∷ named (cond (is_numbered p.1) (suc k) k) ps

-- how many have no name or a number
abbrev pub numbered : List (Ty × List ℕ) → ℕ
numbered ps = length (filter (λ p. is_numbered p.1) ps)

-- `T`, with attributes: a parameter of a declaration has no name
unfoldable pub declared_parameter : Rule Token (Ty × List ℕ)
declared_parameter = do
  ty ← value_type
  past_parts places.Value
  pure (ty, [])

unfoldable pub parameters : Rule Token (List (Ty × List ℕ))
parameters = sign 40 >> listed 41 parameter

unfoldable pub declared_parameters : Rule Token (List (Ty × List ℕ))
declared_parameters = sign 40 >> listed 41 declared_parameter

-- # Functions

-- `{ blocks }`
unfoldable pub body : Nodes → ℕ → Rule Token (List Block)
body nodes n = do
  sign 123
  list ← blocks nodes n
  sign 125
  pure list

-- `RT @f(T %a, ..) { blocks }`, behind `define`
unfoldable pub definition : Nodes → Rule Token Function
definition nodes = do
  past_parts places.Return
  gives ← return_type
  name ← global
  list ← parameters
  prof ← head_note nodes
  inside ← body nodes (numbered list)
  pure (record { name = name; ret = gives; params = named 0 list; blocks = inside; prof = prof })

-- `RT @f(T, ..)`, behind `declare`
unfoldable pub declaration : Rule Token Function
declaration = do
  past_parts places.Return
  gives ← return_type
  name ← global
  list ← declared_parameters
  past_parts places.Function
  pure (record { name = name; ret = gives; params = list; blocks = []; prof = None })
