-- The words of operators, predicates, conversions and types (LLVM Language Reference, "Instruction Reference").
use Rattle.std.specs.Prelude.{ℕ, Bool, true, false, List, codes}
use Rattle.ir_tree.specs.declared.types.Ret.{Ret}
use Rattle.ir_tree.specs.declared.types.Ret.TheVariants.{Void, Value}
use Rattle.ir_tree.specs.declared.types.BinOp.{BinOp}
use Rattle.ir_tree.specs.declared.types.BinOp.TheVariants as operators
use Rattle.ir_tree.specs.declared.types.ConvOp.{ConvOp}
use Rattle.ir_tree.specs.declared.types.ConvOp.TheVariants as conversions
use Rattle.ir_tree.specs.declared.types.Pred.{Pred}
use Rattle.ir_tree.specs.declared.types.Pred.TheVariants as predicates
use Rattle.ir_tree.specs.declared.types.Ty.{Ty}
use Rattle.ir_tree.specs.declared.types.Ty.TheVariants.{I1, I8, I16, I32, I64, Ptr}

abbrev pub type_word : Ty → List ℕ
type_word I1 = codes "i1"
type_word I8 = codes "i8"
type_word I16 = codes "i16"
type_word I32 = codes "i32"
type_word I64 = codes "i64"
type_word Ptr = codes "ptr"

abbrev pub return_word : Ret → List ℕ
return_word Void = codes "void"
return_word (Value ty) = type_word ty

abbrev pub operator_word : BinOp → List ℕ
operator_word operators.Add = codes "add"
operator_word operators.Sub = codes "sub"
operator_word operators.Mul = codes "mul"
operator_word operators.UDiv = codes "udiv"
operator_word operators.SDiv = codes "sdiv"
operator_word operators.URem = codes "urem"
operator_word operators.SRem = codes "srem"
operator_word operators.Shl = codes "shl"
operator_word operators.LShr = codes "lshr"
operator_word operators.AShr = codes "ashr"
operator_word operators.And = codes "and"
operator_word operators.Or = codes "or"
operator_word operators.Xor = codes "xor"

abbrev pub predicate_word : Pred → List ℕ
predicate_word predicates.Eq = codes "eq"
predicate_word predicates.Ne = codes "ne"
predicate_word predicates.Ugt = codes "ugt"
predicate_word predicates.Uge = codes "uge"
predicate_word predicates.Ult = codes "ult"
predicate_word predicates.Ule = codes "ule"
predicate_word predicates.Sgt = codes "sgt"
predicate_word predicates.Sge = codes "sge"
predicate_word predicates.Slt = codes "slt"
predicate_word predicates.Sle = codes "sle"

abbrev pub conversion_word : ConvOp → List ℕ
conversion_word conversions.Trunc = codes "trunc"
conversion_word conversions.ZExt = codes "zext"
conversion_word conversions.SExt = codes "sext"
conversion_word conversions.PtrToInt = codes "ptrtoint"

-- whether a global variable is constant
abbrev pub variable_word : Bool → List ℕ
variable_word true = codes "constant"
variable_word false = codes "global"
