-- Instructions other than terminators (LLVM Language Reference, "Instruction Reference").
use Rattle.std.specs.Prelude.{ℕ, Bool, true, false, cond, ◌||◌, List, [], ◌∷◌, fold, Option, Some, None, is_some, codes}
use Rattle.std.specs.Option.{option_map}
use Rattle.ir_lex.specs.Tokens.{Token, Word, Global, Local}
use Rattle.ir_tree.specs.declared.types.Ty.{Ty}
use Rattle.ir_tree.specs.declared.types.Ty.TheVariants.{I1, I64, Ptr}
use Rattle.ir_tree.specs.declared.types.Operand.{Operand}
use Rattle.ir_tree.specs.declared.types.Operand.TheVariants as operands
use Rattle.ir_tree.specs.declared.types.BinOp.{BinOp}
use Rattle.ir_tree.specs.declared.types.BinOp.TheVariants.{Add, Sub, Mul, UDiv, SDiv, URem, SRem, Shl, LShr, AShr, And, Or, Xor}
use Rattle.ir_tree.specs.declared.types.ConvOp.{ConvOp}
use Rattle.ir_tree.specs.declared.types.ConvOp.TheVariants.{Trunc, ZExt, SExt, PtrToInt}
use Rattle.ir_tree.specs.declared.types.Pred.{Pred}
use Rattle.ir_tree.specs.declared.types.Flags.{Flags}
use Rattle.ir_tree.specs.declared.types.Instr.{Instr}
use Rattle.ir_tree.specs.declared.types.Instr.TheVariants.{Binary, Compare, Convert, Freeze, Select, Phi, Alloca, Load, Store, Gep, Call, Count}
use Rattle.ir_grammar.specs.Rules.{Rule, pure, one, many, many_after, TakesToken, one_takes, then_takes, ◌>>=◌, ◌>>◌}
use Rattle.ir_grammar.specs.Tables.{by_word, opcode_of, predicate_words, effect_words, linkage_of}
use Rattle.ir_grammar.specs.Words.{Tokens, is_sign, first_is, behind_comma, word, sign, flag, flag_where, global, local, count, comma_item, comma_takes, listed}
use Rattle.ir_grammar.specs.Types.{type_meaning, value_type, this_type, return_type, memory_type, literal, operand, typed_operand}
use Rattle.ir_grammar.specs.Past.{past_parts, tail}
use Rattle.ir_grammar.specs.Notes.{Nodes, this_literal, noted}
use Rattle.ir_grammar.specs.declared.words.Opcode.{Opcode}
use Rattle.ir_grammar.specs.declared.words.Opcode.TheVariants as opcodes
use Rattle.ir_grammar.specs.declared.words.Effect.{Effect}
use Rattle.ir_grammar.specs.declared.words.Effect.TheVariants as effects
use Rattle.ir_grammar.specs.declared.words.Place.TheVariants as places
use Rattle.ir_grammar.specs.declared.words.Tail.TheVariants as tails
use Rattle.ir_grammar.specs.declared.words.Marks.{Marks}
use Rattle.ir_grammar.specs.declared.words.Marks.TheVariants as marks
use Rattle.ir_grammar.specs.declared.words.NoteKind.TheVariants as kinds

-- # Operators and conversions

-- which operators may say that they don't wrap
abbrev pub may_wrap : BinOp → Bool
may_wrap Add = true
may_wrap Sub = true
may_wrap Mul = true
may_wrap UDiv = false
may_wrap SDiv = false
may_wrap URem = false
may_wrap SRem = false
may_wrap Shl = true
may_wrap LShr = false
may_wrap AShr = false
may_wrap And = false
may_wrap Or = false
may_wrap Xor = false

-- which operators may say that nothing is lost
abbrev pub may_be_exact : BinOp → Bool
may_be_exact Add = false
may_be_exact Sub = false
may_be_exact Mul = false
may_be_exact UDiv = true
may_be_exact SDiv = true
may_be_exact URem = false
may_be_exact SRem = false
may_be_exact Shl = false
may_be_exact LShr = true
may_be_exact AShr = true
may_be_exact And = false
may_be_exact Or = false
may_be_exact Xor = false

abbrev pub is_or : BinOp → Bool
is_or Add = false
is_or Sub = false
is_or Mul = false
is_or UDiv = false
is_or SDiv = false
is_or URem = false
is_or SRem = false
is_or Shl = false
is_or LShr = false
is_or AShr = false
is_or And = false
is_or Or = true
is_or Xor = false

-- `[nuw] [nsw] [exact]` in this order, and `disjoint`, which is read past
unfoldable pub operator_flags : BinOp → Rule Token Flags
operator_flags op = do
  nuw ← flag_where (may_wrap op) (codes "nuw")
  nsw ← flag_where (may_wrap op) (codes "nsw")
  exact ← flag_where (may_be_exact op) (codes "exact")
  flag_where (is_or op) (codes "disjoint")
  pure (record { nuw = nuw; nsw = nsw; exact = exact })

-- `T V, V`: both operands have the type
unfoldable pub two_operands : Rule Token (Ty × Operand × Operand)
two_operands = do
  ty ← value_type
  left ← operand ty
  sign 44
  right ← operand ty
  pure (ty, left, right)

-- `[nuw] [nsw] [exact] T V, V`
unfoldable pub binary : List ℕ → BinOp → Rule Token Instr
binary dest op = do
  flags ← operator_flags op
  (ty, left, right) ← two_operands
  tail tails.Plain
  pure (Binary dest op flags ty left right)

abbrev pub predicate_meaning : Token → Option Pred
predicate_meaning (Word text) = by_word predicate_words text
predicate_meaning _ = None

unfoldable pub predicate : Rule Token Pred
predicate = one predicate_meaning

-- `[samesign] PRED T V, V`
unfoldable pub compare : List ℕ → Rule Token Instr
compare dest = do
  flag (codes "samesign")
  pred ← predicate
  (ty, left, right) ← two_operands
  tail tails.Plain
  pure (Compare dest pred ty left right)

abbrev pub is_trunc : ConvOp → Bool
is_trunc Trunc = true
is_trunc ZExt = false
is_trunc SExt = false
is_trunc PtrToInt = false

abbrev pub is_zext : ConvOp → Bool
is_zext Trunc = false
is_zext ZExt = true
is_zext SExt = false
is_zext PtrToInt = false

-- `[nuw] [nsw]` of a trunc, and `nneg` of a zext, which is read past
unfoldable pub conversion_flags : ConvOp → Rule Token Flags
conversion_flags op = do
  nuw ← flag_where (is_trunc op) (codes "nuw")
  nsw ← flag_where (is_trunc op) (codes "nsw")
  flag_where (is_zext op) (codes "nneg")
  pure (record { nuw = nuw; nsw = nsw; exact = false })

unfoldable pub pointer_type : Rule Token Ty
pointer_type = this_type Ptr >> pure Ptr

-- the type that is converted, which for ptrtoint is `ptr`
abbrev pub source_type : ConvOp → Rule Token Ty
source_type Trunc = value_type
source_type ZExt = value_type
source_type SExt = value_type
source_type PtrToInt = pointer_type

-- `[nuw] [nsw] T V to T`
unfoldable pub convert : List ℕ → ConvOp → Rule Token Instr
convert dest op = do
  flags ← conversion_flags op
  from ← source_type op
  value ← operand from
  word (codes "to")
  to ← value_type
  tail tails.Plain
  pure (Convert dest op flags from value to)

-- `T V`
unfoldable pub freeze : List ℕ → Rule Token Instr
freeze dest = do
  (ty, value) ← typed_operand
  tail tails.Plain
  pure (Freeze dest ty value)

-- `i1 V, T V, T V`: both values are written with one type
unfoldable pub select : Nodes → List ℕ → Rule Token Instr
select nodes dest = do
  this_type I1
  condition ← operand I1
  sign 44
  (ty, first) ← typed_operand
  sign 44
  this_type ty
  second ← operand ty
  prof ← noted nodes kinds.Weights
  pure (Select dest condition ty first second prof)

-- # Phis

-- `[ V, %b ]`: the value where the block %b was left
unfoldable pub entry : Ty → Rule Token (Operand × List ℕ)
entry ty = do
  sign 91
  value ← operand ty
  sign 44
  from ← local
  sign 93
  pure (value, from)

-- one or more entries, parted by commas
unfoldable pub entries : Ty → Rule Token (List (Operand × List ℕ))
entries ty = do
  first ← entry ty
  many_after (first ∷ []) (behind_comma (is_sign 91)) (comma_item (entry ty)) (comma_takes (entry ty))

-- `T [ V, %b ], ..`
unfoldable pub phi : List ℕ → Rule Token Instr
phi dest = do
  ty ← value_type
  list ← entries ty
  tail tails.Plain
  pure (Phi dest ty list)

-- # Memory

-- `MT`
unfoldable pub alloca : List ℕ → Rule Token Instr
alloca dest = do
  mem ← memory_type
  tail tails.Aligned
  pure (Alloca dest mem)

-- `ptr V`
unfoldable pub address : Rule Token Operand
address = this_type Ptr >> operand Ptr

-- `T, ptr V`
unfoldable pub load : List ℕ → Rule Token Instr
load dest = do
  ty ← value_type
  sign 44
  from ← address
  tail tails.Aligned
  pure (Load dest ty from)

-- `T V, ptr V`
unfoldable pub store : Rule Token Instr
store = do
  (ty, value) ← typed_operand
  sign 44
  to ← address
  tail tails.Aligned
  pure (Store ty value to)

-- among these words one is marked
abbrev pub gep_words : List (List ℕ × Bool)
gep_words = (codes "inbounds", true) ∷ (codes "nusw", false) ∷ (codes "nuw", false) ∷ []

abbrev pub marked_of : Marks → List ℕ → Option Bool
marked_of marks.External text = linkage_of text
marked_of marks.Inbounds text = by_word gep_words text

abbrev pub mark_meaning : Marks → Token → Option Bool
mark_meaning which (Word text) = marked_of which text
mark_meaning which _ = None

unfoldable pub one_marked : Marks → Rule Token Bool
one_marked which = one (mark_meaning which)

pub one_marked_takes : (which : Marks) → TakesToken (one_marked which)
unfolding one_marked
one_marked_takes which = one_takes (mark_meaning which)

-- any number of these words, and whether the marked one is among them
unfoldable pub marked : Marks → Rule Token Bool
marked which = many (first_is (λ t. is_some (mark_meaning which t))) (one_marked which) (one_marked_takes which) >>= λ list. pure (fold ◌||◌ false list)

abbrev pub is_type_word : Token → Bool
is_type_word t = is_some (type_meaning t)

-- one or more indices, parted by commas
unfoldable pub indices : Rule Token (List (Ty × Operand))
indices = do
  first ← typed_operand
  many_after (first ∷ []) (behind_comma is_type_word) (comma_item typed_operand) (comma_takes typed_operand)

-- `[inbounds] MT, ptr V, T V, ..`
unfoldable pub gep : List ℕ → Rule Token Instr
gep dest = do
  inbounds ← marked marks.Inbounds
  mem ← memory_type
  sign 44
  from ← address
  sign 44
  list ← indices
  tail tails.Plain
  pure (Gep dest inbounds mem from list)

-- # Calls

abbrev pub callee_meaning : Token → Option Operand
callee_meaning (Global name) = Some (operands.Global name)
callee_meaning (Local name) = Some (operands.Local name)
callee_meaning _ = None

unfoldable pub callee : Rule Token Operand
callee = one callee_meaning

-- `T V`, with attributes
unfoldable pub argument : Rule Token (Ty × Operand)
argument = do
  ty ← value_type
  past_parts places.Value
  value ← operand ty
  pure (ty, value)

unfoldable pub arguments : Rule Token (List (Ty × Operand))
arguments = sign 40 >> listed 41 argument

-- `RT CALLEE(T V, ..)`
unfoldable pub call : Nodes → Option (List ℕ) → Rule Token Instr
call nodes dest = do
  past_parts places.Return
  gives ← return_type
  whom ← callee
  args ← arguments
  past_parts places.Function
  prof ← noted nodes kinds.Targets
  pure (Call dest gives whom args prof)

-- `call RT CALLEE(T V, ..)`, behind `tail` or `notail`
unfoldable pub tail_call : Nodes → Option (List ℕ) → Rule Token Instr
tail_call nodes dest = word (codes "call") >> call nodes dest

-- # Counters

-- `[N x i64]`
unfoldable pub counters_type : Rule Token ℕ
counters_type = do
  sign 91
  size ← count
  word (codes "x")
  this_type I64
  sign 93
  pure size

-- `, i64 0, i64 I`
unfoldable pub counter_index : Rule Token ℕ
counter_index = do
  sign 44
  this_type I64
  this_literal I64 0
  sign 44
  this_type I64
  literal I64

-- `ptr getelementptr inbounds ([N x i64], ptr @s, i64 0, i64 I)`: the name, N and I
unfoldable pub counter : Rule Token (List ℕ × ℕ × ℕ)
counter = do
  this_type Ptr
  word (codes "getelementptr")
  word (codes "inbounds")
  sign 40
  size ← counters_type
  sign 44
  this_type Ptr
  name ← global
  index ← counter_index
  sign 41
  pure (name, size, index)

-- `add COUNTER, i64 V monotonic`
unfoldable pub counter_add : Rule Token Instr
counter_add = do
  word (codes "add")
  (name, size, index) ← counter
  sign 44
  this_type I64
  step ← operand I64
  word (codes "monotonic")
  tail tails.Aligned
  pure (Count name size index step)

-- # Any instruction

-- what stands behind `%d =` and the first word
abbrev pub operation : Nodes → List ℕ → Opcode → Rule Token Instr
operation nodes dest (opcodes.Binary op) = binary dest op
operation nodes dest opcodes.Compare = compare dest
operation nodes dest (opcodes.Convert op) = convert dest op
operation nodes dest opcodes.Freeze = freeze dest
operation nodes dest opcodes.Select = select nodes dest
operation nodes dest opcodes.Phi = phi dest
operation nodes dest opcodes.Alloca = alloca dest
operation nodes dest opcodes.Load = load dest
operation nodes dest opcodes.Gep = gep dest
operation nodes dest opcodes.Call = call nodes (Some dest)
operation nodes dest opcodes.Tail = tail_call nodes (Some dest)

abbrev pub opcode_meaning : Token → Option Opcode
opcode_meaning (Word text) = opcode_of text
opcode_meaning _ = None

unfoldable pub opcode : Rule Token Opcode
opcode = one opcode_meaning

-- `= ..`
unfoldable pub assigned : Nodes → List ℕ → Rule Token Instr
assigned nodes dest = do
  sign 61
  op ← opcode
  operation nodes dest op

-- what stands behind the first word of an instruction without the name of a result
abbrev pub effect : Nodes → Effect → Rule Token Instr
effect nodes effects.Store = store
effect nodes effects.Call = call nodes None
effect nodes effects.Tail = tail_call nodes None
effect nodes effects.Count = counter_add

-- an instruction begins with the name of its result, or with the word of one that has none
pub data Lead : Type 0 where
  Named : List ℕ → Lead
  Does : Effect → Lead

abbrev pub lead_of : Token → Option Lead
lead_of (Local name) = Some (Named name)
lead_of (Word text) = option_map Does (by_word effect_words text)
lead_of _ = None

abbrev pub instr_behind : Nodes → Lead → Rule Token Instr
instr_behind nodes (Named dest) = assigned nodes dest
instr_behind nodes (Does what) = effect nodes what

unfoldable pub instr : Nodes → Rule Token Instr
instr nodes = one lead_of >>= instr_behind nodes

pub instr_takes : (nodes : Nodes) → TakesToken (instr nodes)
unfolding instr
instr_takes nodes = then_takes _ (one_takes lead_of)

abbrev pub starts_instr : Token → Bool
starts_instr t = is_some (lead_of t)

-- instructions, up to a token that begins none
unfoldable pub instrs : Nodes → Rule Token (List Instr)
instrs nodes = many (first_is starts_instr) (instr nodes) (instr_takes nodes)
