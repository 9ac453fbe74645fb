-- What holds of the grammar as a whole.
use Rattle.std.specs.Prelude.{◌≡◌, ◌↔◌, ◌++◌, true, false, [], ◌∷◌, Some, None, codes}
use Rattle.ir_lex.specs.Tokens.{Word, Number, Global, Local, Label, Sign}
use Rattle.ir_tree.specs.Types.{literal_of}
use Rattle.ir_tree.specs.declared.types.Ty.TheVariants.{I64}
use Rattle.ir_tree.specs.declared.types.Ret.TheVariants.{Void, Value}
use Rattle.ir_tree.specs.declared.types.Operand.TheVariants as operands
use Rattle.ir_tree.specs.declared.types.BinOp.TheVariants as operators
use Rattle.ir_tree.specs.declared.types.Pred.TheVariants as predicates
use Rattle.ir_tree.specs.declared.types.Flags.{Flags}
use Rattle.ir_tree.specs.declared.types.Instr.TheVariants.{Binary, Compare, Phi, Call}
use Rattle.ir_tree.specs.declared.types.Term.TheVariants as terms
use Rattle.ir_tree.specs.declared.types.Block.{Block}
use Rattle.ir_tree.specs.declared.types.Function.{Function}
use Rattle.ir_tree.specs.declared.types.Module.{Module}
use Rattle.ir_grammar.specs.Words.{Tokens}
use Rattle.ir_grammar.specs.Notes.{Nodes, nodes_of}
use Rattle.ir_grammar.specs.Grammar.{Spells, «module»}

-- A list of tokens spells one module at most.
abbrev pub OneModule : Type 0
OneModule = (ts : Tokens) (m n : Module) → Spells ts m → Spells ts n → m ≡ n

-- What is read up to the last token is spelled, and where nothing is, nothing is spelled.
abbrev pub ReadIsSpelled : Type 0
ReadIsSpelled = (ts : Tokens) (m : Module) → ((«module» (nodes_of ts)).read ts ≡ Some (m, [])) ↔ Spells ts m

-- The parts of a module go up to the last token, so nothing is left behind a module.
abbrev pub ModuleEnds : Type 0
ModuleEnds = (nodes : Nodes) (ts : Tokens) (m : Module) (rest : Tokens) → («module» nodes).Spells ts m rest → rest ≡ []

-- # A worked example
--
-- declare void @print_i64(i64)
-- define i64 @g(i64 %n) {
-- entry:
--   %c = icmp slt i64 %n, 10
--   br i1 %c, label %low, label %high
-- low:
--   %a = add i64 %n, -1
--   call void @print_i64(i64 %a)
--   br label %high
-- high:
--   %r = phi i64 [ %n, %entry ], [ %a, %low ]
--   ret i64 %r
-- }

abbrev pub no_flags : Flags
no_flags = record { nuw = false; nsw = false; exact = false }

abbrev pub declare_tokens : Tokens
declare_tokens = Word (codes "declare") ∷ Word (codes "void") ∷ Global (codes "print_i64") ∷ Sign 40 ∷ Word (codes "i64") ∷ Sign 41 ∷ []

abbrev pub head_tokens : Tokens
head_tokens = Word (codes "define") ∷ Word (codes "i64") ∷ Global (codes "g") ∷ Sign 40 ∷ Word (codes "i64") ∷ Local (codes "n") ∷ Sign 41 ∷ Sign 123 ∷ []

abbrev pub entry_tokens : Tokens
entry_tokens =
    Label (codes "entry") ∷
    Local (codes "c") ∷ Sign 61 ∷ Word (codes "icmp") ∷ Word (codes "slt") ∷ Word (codes "i64") ∷ Local (codes "n") ∷ Sign 44 ∷ Number false 10 ∷
    Word (codes "br") ∷ Word (codes "i1") ∷ Local (codes "c") ∷ Sign 44 ∷ Word (codes "label") ∷ Local (codes "low") ∷ Sign 44 ∷ Word (codes "label") ∷ Local (codes "high") ∷ []

abbrev pub low_tokens : Tokens
low_tokens =
    Label (codes "low") ∷
    Local (codes "a") ∷ Sign 61 ∷ Word (codes "add") ∷ Word (codes "i64") ∷ Local (codes "n") ∷ Sign 44 ∷ Number true 1 ∷
    Word (codes "call") ∷ Word (codes "void") ∷ Global (codes "print_i64") ∷ Sign 40 ∷ Word (codes "i64") ∷ Local (codes "a") ∷ Sign 41 ∷
    Word (codes "br") ∷ Word (codes "label") ∷ Local (codes "high") ∷ []

abbrev pub high_tokens : Tokens
high_tokens =
    Label (codes "high") ∷
    Local (codes "r") ∷ Sign 61 ∷ Word (codes "phi") ∷ Word (codes "i64") ∷
    Sign 91 ∷ Local (codes "n") ∷ Sign 44 ∷ Local (codes "entry") ∷ Sign 93 ∷ Sign 44 ∷
    Sign 91 ∷ Local (codes "a") ∷ Sign 44 ∷ Local (codes "low") ∷ Sign 93 ∷
    Word (codes "ret") ∷ Word (codes "i64") ∷ Local (codes "r") ∷ Sign 125 ∷ []

abbrev pub example_tokens : Tokens
example_tokens = declare_tokens ++ head_tokens ++ entry_tokens ++ low_tokens ++ high_tokens

abbrev pub print_declared : Function
print_declared = record { name = codes "print_i64"; ret = Void; params = (I64, []) ∷ []; blocks = []; prof = None }

abbrev pub entry_block : Block
entry_block = record {
  label = codes "entry";
  instrs = Compare (codes "c") predicates.Slt I64 (operands.Local (codes "n")) (operands.Int 10) ∷ [];
  term = terms.CondBr (operands.Local (codes "c")) (codes "low") (codes "high") None;
}

abbrev pub low_block : Block
low_block = record {
  label = codes "low";
  instrs =
      Binary (codes "a") operators.Add no_flags I64 (operands.Local (codes "n")) (operands.Int 18446744073709551615) ∷
      Call None Void (operands.Global (codes "print_i64")) ((I64, operands.Local (codes "a")) ∷ []) None ∷ [];
  term = terms.Br (codes "high");
}

abbrev pub high_block : Block
high_block = record {
  label = codes "high";
  instrs = Phi (codes "r") I64 ((operands.Local (codes "n"), codes "entry") ∷ (operands.Local (codes "a"), codes "low") ∷ []) ∷ [];
  term = terms.Ret (Some (I64, operands.Local (codes "r")));
}

abbrev pub g_defined : Function
g_defined = record { name = codes "g"; ret = Value I64; params = (I64, codes "n") ∷ []; blocks = entry_block ∷ low_block ∷ high_block ∷ []; prof = None }

-- its tokens spell its module
abbrev pub ExampleIsSpelled : Type 0
ExampleIsSpelled = Spells example_tokens (record { globals = []; functions = print_declared ∷ g_defined ∷ [] })

-- The literals of `i64` go from -2^63 to 2^64 - 1, and are kept modulo 2^64.
pub record LiteralEnds : Type 0 where
  pub least : literal_of I64 true 9223372036854775808 ≡ Some 9223372036854775808
  pub below_least : literal_of I64 true 9223372036854775809 ≡ None
  pub minus_one : literal_of I64 true 1 ≡ Some 18446744073709551615
  pub minus_zero : literal_of I64 true 0 ≡ Some 0
  pub greatest : literal_of I64 false 18446744073709551615 ≡ Some 18446744073709551615
  pub above_greatest : literal_of I64 false 18446744073709551616 ≡ None
