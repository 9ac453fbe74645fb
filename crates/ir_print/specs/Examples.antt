-- A module with each instruction, flag, terminator and kind of note, and its text as it is printed by hand.
use Rattle.std.specs.Prelude.{◌≡◌, ℕ, Bool, true, false, List, [], ◌∷◌, Option, Some, None, codes}
use Rattle.ir_tree.specs.declared.types.Ty.{Ty}
use Rattle.ir_tree.specs.declared.types.Ty.TheVariants.{I1, I8, I16, I32, I64, Ptr}
use Rattle.ir_tree.specs.declared.types.Ret.TheVariants.{Void, Value}
use Rattle.ir_tree.specs.declared.types.MemTy.{MemTy}
use Rattle.ir_tree.specs.declared.types.MemTy.TheVariants.{Scalar, Array}
use Rattle.ir_tree.specs.declared.types.Operand.{Operand}
use Rattle.ir_tree.specs.declared.types.Operand.TheVariants as operands
use Rattle.ir_tree.specs.declared.types.BinOp.TheVariants as operators
use Rattle.ir_tree.specs.declared.types.ConvOp.TheVariants as conversions
use Rattle.ir_tree.specs.declared.types.Pred.TheVariants as predicates
use Rattle.ir_tree.specs.declared.types.Flags.{Flags}
use Rattle.ir_tree.specs.declared.types.Prof.TheVariants.{Entry, Weights, Targets}
use Rattle.ir_tree.specs.declared.types.Init.{Init}
use Rattle.ir_tree.specs.declared.types.Init.TheVariants as inits
use Rattle.ir_tree.specs.declared.types.Instr.{Instr}
use Rattle.ir_tree.specs.declared.types.Instr.TheVariants.{Binary, Compare, Convert, Freeze, Select, Phi, Alloca, Load, Store, Gep, Call, Count}
use Rattle.ir_tree.specs.declared.types.Term.TheVariants as terms
use Rattle.ir_tree.specs.declared.types.Block.{Block}
use Rattle.ir_tree.specs.declared.types.Function.{Function}
use Rattle.ir_tree.specs.declared.types.Global1.{Global1}
use Rattle.ir_tree.specs.declared.types.Module.{Module}
use Rattle.text_pieces.specs.Written.{byte_text, escaped, written}
use Rattle.text_pieces.specs.Pieces.{text_of}
use Rattle.canonical_text.specs.Instructions.{instr_pieces, term_pieces}
use Rattle.canonical_text.specs.Canonical.{canonical, variable_pieces}

abbrev pub flags_of : Bool → Bool → Bool → Flags
flags_of nuw nsw exact = record { nuw = nuw; nsw = nsw; exact = exact }

abbrev pub local_of : List ℕ → Operand
local_of name = operands.Local name

-- # Single lines

-- each line as it is printed by hand; notes are numbered as in the list of two
pub record LinesArePrinted : Type 0 where
  pub flags : text_of (instr_pieces [] (Binary (codes "a") operators.Add (flags_of true true false) I8 (operands.Int 127) (operands.Int 128))) ≡ codes "  %a = add nuw nsw i8 127, -128\n"
  pub exact : text_of (instr_pieces [] (Binary (codes "7") operators.LShr (flags_of false false true) I64 (operands.Int 18446744073709551615) (local_of (codes "x+")))) ≡ codes "  %7 = lshr exact i64 -1, %\"x+\"\n"
  pub truth : text_of (instr_pieces [] (Binary (codes "a") operators.Xor (flags_of false false false) I1 (operands.Int 1) (operands.Int 0))) ≡ codes "  %a = xor i1 true, false\n"
  pub compare : text_of (instr_pieces [] (Compare (codes "c") predicates.Slt Ptr operands.Null (operands.Global (codes "g")))) ≡ codes "  %c = icmp slt ptr null, @g\n"
  pub convert : text_of (instr_pieces [] (Convert (codes "t") conversions.Trunc (flags_of true true false) I64 (local_of (codes "a")) I32)) ≡ codes "  %t = trunc nuw nsw i64 %a to i32\n"
  pub freeze : text_of (instr_pieces [] (Freeze (codes "f") I16 (operands.Int 32768))) ≡ codes "  %f = freeze i16 -32768\n"
  pub select : text_of (instr_pieces (Entry 3 ∷ Weights (1 ∷ 4294967295 ∷ []) ∷ []) (Select (codes "s") (local_of (codes "c")) I32 (operands.Int 1) (operands.Int 2) (Some (Weights (1 ∷ 4294967295 ∷ []))))) ≡ codes "  %s = select i1 %c, i32 1, i32 2, !prof !1\n"
  pub phi : text_of (instr_pieces [] (Phi (codes "p") I8 ((operands.Int 255, codes "b") ∷ (local_of (codes "q"), codes "0") ∷ []))) ≡ codes "  %p = phi i8 [ -1, %b ], [ %q, %0 ]\n"
  pub alloca : text_of (instr_pieces [] (Alloca (codes "m") (Array 2 (Array 3 (Scalar I16))))) ≡ codes "  %m = alloca [2 x [3 x i16]]\n"
  pub load : text_of (instr_pieces [] (Load (codes "l") I64 (local_of (codes "m")))) ≡ codes "  %l = load i64, ptr %m\n"
  pub store : text_of (instr_pieces [] (Store I1 (operands.Int 1) (operands.Global (codes "g")))) ≡ codes "  store i1 true, ptr @g\n"
  pub address : text_of (instr_pieces [] (Gep (codes "e") true (Array 4 (Scalar I8)) (local_of (codes "m")) ((I64, operands.Int 0) ∷ (I32, local_of (codes "i")) ∷ []))) ≡ codes "  %e = getelementptr inbounds [4 x i8], ptr %m, i64 0, i32 %i\n"
  pub no_flag : text_of (instr_pieces [] (Gep (codes "e") false (Scalar I8) (local_of (codes "m")) ((I64, operands.Int 1) ∷ []))) ≡ codes "  %e = getelementptr i8, ptr %m, i64 1\n"
  pub call : text_of (instr_pieces (Targets 4 ((9, 4) ∷ []) ∷ []) (Call (Some (codes "r")) (Value I64) (local_of (codes "h")) ((I64, operands.Int 1) ∷ (Ptr, operands.Null) ∷ []) (Some (Targets 4 ((9, 4) ∷ []))))) ≡ codes "  %r = call i64 %h(i64 1, ptr null), !prof !0\n"
  pub no_arguments : text_of (instr_pieces [] (Call None Void (operands.Global (codes "f")) [] None)) ≡ codes "  call void @f()\n"
  pub count : text_of (instr_pieces [] (Count (codes "__profc_f") 3 2 (operands.Int 1))) ≡ codes "  atomicrmw add ptr getelementptr inbounds ([3 x i64], ptr @__profc_f, i64 0, i64 2), i64 1 monotonic\n"
  pub jump : text_of (term_pieces [] (terms.Br (codes "b"))) ≡ codes "  br label %b\n"
  pub branch : text_of (term_pieces (Weights (5 ∷ 6 ∷ []) ∷ []) (terms.CondBr (local_of (codes "c")) (codes "a") (codes "b") (Some (Weights (5 ∷ 6 ∷ []))))) ≡ codes "  br i1 %c, label %a, label %b, !prof !0\n"
  pub switch : text_of (term_pieces [] (terms.Switch I8 (local_of (codes "x")) (codes "d") ((1, codes "a") ∷ (200, codes "b") ∷ []) None)) ≡ codes "  switch i8 %x, label %d [\n    i8 1, label %a\n    i8 -56, label %b\n  ]\n"
  pub returned : text_of (term_pieces [] (terms.Ret (Some (I1, operands.Int 0)))) ≡ codes "  ret i1 false\n"
  pub returned_nothing : text_of (term_pieces [] (terms.Ret None)) ≡ codes "  ret void\n"
  pub unreachable : text_of (term_pieces [] terms.Unreachable) ≡ codes "  unreachable\n"

-- # A module

abbrev pub variable_of : List ℕ → Bool → MemTy → Init → Global1
variable_of name constant mem init = record { name = name; constant = constant; mem = mem; init = init }

abbrev pub f_declared : Function
f_declared = record { name = codes "f"; ret = Void; params = (I64, []) ∷ (Ptr, []) ∷ []; blocks = []; prof = None }

abbrev pub first_block : Block
first_block = record {
  label = codes "0";
  instrs =
      Select (codes "s") (operands.Int 1) I64 (local_of (codes "n")) (operands.Int 9223372036854775808) (Some (Weights (7 ∷ 8 ∷ []))) ∷
      Call None (Value I64) (local_of (codes "p")) [] (Some (Targets 0 [])) ∷ [];
  term = terms.CondBr (operands.Int 0) (codes "a b") (codes "a#") (Some (Weights (7 ∷ 8 ∷ [])));
}

abbrev pub second_block : Block
second_block = record { label = codes "a+"; instrs = []; term = terms.Ret (Some (I64, local_of (codes "s"))) }

abbrev pub g_defined : Function
g_defined = record { name = codes "1g"; ret = Value I64; params = (I64, codes "n") ∷ (Ptr, codes "p") ∷ []; blocks = first_block ∷ second_block ∷ []; prof = Some (Entry 18446744073709551615) }

abbrev pub h_defined : Function
h_defined = record {
  name = codes "h";
  ret = Void;
  params = [];
  blocks = (record { label = codes "e"; instrs = []; term = terms.Switch I1 (operands.Int 1) (codes "e") [] (Some (Weights (7 ∷ 8 ∷ []))) }) ∷ [];
  prof = None;
}

abbrev pub worked : Module
worked = record {
  globals =
      variable_of (codes "t") true (Array 2 (Scalar Ptr)) (inits.List (inits.Symbol (codes "f") ∷ inits.Null ∷ [])) ∷
      variable_of (codes "b") false (Array 4 (Scalar I8)) (inits.Bytes (97 ∷ 34 ∷ 92 ∷ 255 ∷ [])) ∷
      variable_of (codes "z") false (Array 0 (Array 1 (Scalar I1))) inits.Zero ∷
      variable_of (codes "l") false (Array 1 (Array 2 (Scalar I1))) (inits.List (inits.List (inits.Int 1 ∷ inits.Int 0 ∷ []) ∷ [])) ∷
      variable_of (codes "n") false (Array 0 (Scalar I8)) (inits.List []) ∷
      variable_of (codes "i") true (Scalar I16) (inits.Int 65535) ∷
      variable_of (codes "x") false (Scalar I64) inits.External ∷ [];
  functions = f_declared ∷ g_defined ∷ h_defined ∷ [];
}

-- with two notes that are equal, and three nodes
pub record ModuleIsPrinted : Type 0 where
  pub text : canonical worked ≡ codes "@t = constant [2 x ptr] [ptr @f, ptr null]\n@b = global [4 x i8] c\"a\\22\\5C\\FF\"\n@z = global [0 x [1 x i1]] zeroinitializer\n@l = global [1 x [2 x i1]] [[2 x i1] [i1 true, i1 false]]\n@n = global [0 x i8] []\n@i = constant i16 -1\n@x = external global i64\n\ndeclare void @f(i64, ptr)\n\ndefine i64 @\"1g\"(i64 %n, ptr %p) !prof !0 {\n0:\n  %s = select i1 true, i64 %n, i64 -9223372036854775808, !prof !1\n  call i64 %p(), !prof !2\n  br i1 false, label %\"a b\", label %\"a#\", !prof !1\n\"a+\":\n  ret i64 %s\n}\n\ndefine void @h() {\ne:\n  switch i1 true, label %e [\n  ], !prof !1\n}\n\n!0 = !{!\"function_entry_count\", i64 -1}\n!1 = !{!\"branch_weights\", i32 7, i32 8}\n!2 = !{!\"VP\", i32 0, i64 0}\n"
  pub empty : canonical (record { globals = []; functions = [] }) ≡ []
  -- nothing precedes the first function
  pub first : canonical (record { globals = []; functions = f_declared ∷ f_declared ∷ [] }) ≡ codes "declare void @f(i64, ptr)\n\ndeclare void @f(i64, ptr)\n"
