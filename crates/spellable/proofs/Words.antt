-- The words that are written mean what they stand for, and can be written.
use Rattle.std.proofs.Common.{◌≡◌, true, false, refl}
use Rattle.std.specs.Prelude.{codes, Some}
use Rattle.ir_lex.specs.Tokens.{Word}
use Rattle.ir_tree.specs.Spelling.{is_word_first, is_name_first, is_name_byte}
use Rattle.ir_tree.specs.declared.types.BinOp.{BinOp}
use Rattle.ir_tree.specs.declared.types.BinOp.TheVariants as operators
use Rattle.ir_tree.specs.declared.types.ConvOp.{ConvOp}
use Rattle.ir_tree.specs.declared.types.ConvOp.TheVariants as conversions
use Rattle.ir_tree.specs.declared.types.Pred.{Pred}
use Rattle.ir_tree.specs.declared.types.Pred.TheVariants as predicates
use Rattle.ir_grammar.specs.Words.{is_word}
use Rattle.ir_grammar.specs.Instructions.{opcode_meaning, predicate_meaning}
use Rattle.ir_grammar.specs.declared.words.Opcode.TheVariants as opcodes
use Rattle.text_cuts.specs.Cut.{can_write}
use Rattle.canonical_text.specs.Words.{operator_word, predicate_word, conversion_word}

pub operator_fact : (op : BinOp) → opcode_meaning (Word (operator_word op)) ≡ Some (opcodes.Binary op)
operator_fact operators.Add = refl
operator_fact operators.Sub = refl
operator_fact operators.Mul = refl
operator_fact operators.UDiv = refl
operator_fact operators.SDiv = refl
operator_fact operators.URem = refl
operator_fact operators.SRem = refl
operator_fact operators.Shl = refl
operator_fact operators.LShr = refl
operator_fact operators.AShr = refl
operator_fact operators.And = refl
operator_fact operators.Or = refl
operator_fact operators.Xor = refl

pub operator_writes : (op : BinOp) → can_write (Word (operator_word op)) ≡ true
unfolding is_word_first is_name_first is_name_byte
operator_writes operators.Add = refl
operator_writes operators.Sub = refl
operator_writes operators.Mul = refl
operator_writes operators.UDiv = refl
operator_writes operators.SDiv = refl
operator_writes operators.URem = refl
operator_writes operators.SRem = refl
operator_writes operators.Shl = refl
operator_writes operators.LShr = refl
operator_writes operators.AShr = refl
operator_writes operators.And = refl
operator_writes operators.Or = refl
operator_writes operators.Xor = refl

pub conversion_fact : (op : ConvOp) → opcode_meaning (Word (conversion_word op)) ≡ Some (opcodes.Convert op)
conversion_fact conversions.Trunc = refl
conversion_fact conversions.ZExt = refl
conversion_fact conversions.SExt = refl
conversion_fact conversions.PtrToInt = refl

pub conversion_writes : (op : ConvOp) → can_write (Word (conversion_word op)) ≡ true
unfolding is_word_first is_name_first is_name_byte
conversion_writes conversions.Trunc = refl
conversion_writes conversions.ZExt = refl
conversion_writes conversions.SExt = refl
conversion_writes conversions.PtrToInt = refl

pub predicate_fact : (p : Pred) → predicate_meaning (Word (predicate_word p)) ≡ Some p
predicate_fact predicates.Eq = refl
predicate_fact predicates.Ne = refl
predicate_fact predicates.Ugt = refl
predicate_fact predicates.Uge = refl
predicate_fact predicates.Ult = refl
predicate_fact predicates.Ule = refl
predicate_fact predicates.Sgt = refl
predicate_fact predicates.Sge = refl
predicate_fact predicates.Slt = refl
predicate_fact predicates.Sle = refl

pub predicate_writes : (p : Pred) → can_write (Word (predicate_word p)) ≡ true
unfolding is_word_first is_name_first is_name_byte
predicate_writes predicates.Eq = refl
predicate_writes predicates.Ne = refl
predicate_writes predicates.Ugt = refl
predicate_writes predicates.Uge = refl
predicate_writes predicates.Ult = refl
predicate_writes predicates.Ule = refl
predicate_writes predicates.Sgt = refl
predicate_writes predicates.Sge = refl
predicate_writes predicates.Slt = refl
predicate_writes predicates.Sle = refl

pub no_samesign : (p : Pred) → is_word (codes "samesign") (Word (predicate_word p)) ≡ false
no_samesign predicates.Eq = refl
no_samesign predicates.Ne = refl
no_samesign predicates.Ugt = refl
no_samesign predicates.Uge = refl
no_samesign predicates.Ult = refl
no_samesign predicates.Ule = refl
no_samesign predicates.Sgt = refl
no_samesign predicates.Sge = refl
no_samesign predicates.Slt = refl
no_samesign predicates.Sle = refl
