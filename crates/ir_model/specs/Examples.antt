-- The definitions at work, on modules of one function `f`
--
--     define i64 @f(i64 %n) {
--     entry:
--       ..
--     }
--
-- of one block with these instructions, and on one that prints.
use Rattle.std.specs.Prelude.{ℕ, List, [], ◌∷◌, Some, None, false, codes}
use Rattle.ir_tree.specs.declared.types.Ty.{Ty}
use Rattle.ir_tree.specs.declared.types.Ty.TheVariants.{I64}
use Rattle.ir_tree.specs.declared.types.Ret.TheVariants as ret
use Rattle.ir_tree.specs.declared.types.BinOp.{BinOp}
use Rattle.ir_tree.specs.declared.types.ConvOp.{ConvOp}
use Rattle.ir_tree.specs.declared.types.Flags.{Flags}
use Rattle.ir_tree.specs.declared.types.Operand.TheVariants.{Int, Local}
use Rattle.ir_tree.specs.declared.types.Instr.{Instr}
use Rattle.ir_tree.specs.declared.types.Instr.TheVariants.{Binary, Convert}
use Rattle.ir_tree.specs.declared.types.Term.{Term}
use Rattle.ir_tree.specs.declared.types.Term.TheVariants.{Ret}
use Rattle.ir_tree.specs.declared.types.Global1.{Global1}
use Rattle.ir_tree.specs.declared.types.Block.{Block}
use Rattle.ir_tree.specs.declared.types.Function.{Function}
use Rattle.ir_tree.specs.declared.types.Module.{Module}
use Rattle.ir_tree.specs.Blocks.{block_with}
use Rattle.ir_model.specs.declared.result.End.{End}
use Rattle.ir_model.specs.Run.{run_of, result_of}

abbrev pub no_flags : Flags
no_flags = record { nuw = false; nsw = false; exact = false }

-- `%r = OP T left, right`
abbrev pub operation : BinOp → Ty → ℕ → ℕ → Instr
operation o ty left right = Binary (codes "r") o no_flags ty (Int left) (Int right)

-- `%r = OP T value to U`
abbrev pub conversion : ConvOp → Ty → ℕ → Ty → Instr
conversion o from value to = Convert (codes "r") o no_flags from (Int value) to

-- `ret T %r`
abbrev pub returning : Ty → Term
returning ty = Ret (Some (ty, Local (codes "r")))

abbrev pub function_of : List Block → Function
function_of blocks =
    record { name = codes "f"; ret = ret.Value I64; params = (I64, codes "n") ∷ []; blocks = blocks; prof = None }

abbrev pub module_of : List Global1 → List Block → Module
module_of globals blocks = record { globals = globals; functions = function_of blocks ∷ [] }

-- how the call `f(n)` ends within so many steps
abbrev pub ends : Module → ℕ → ℕ → End
ends m n steps = (result_of (run_of m (record { function = 0; args = n ∷ [] }) steps)).end

abbrev pub ends_in : List Global1 → List Instr → Term → ℕ → End
ends_in globals instrs t steps = ends (module_of globals (block_with (codes "entry") instrs t ∷ [])) 0 steps
