-- The names of a function: its parameters, its labels and its results, each with where it stands.
use Rattle.std.specs.Prelude.{◌≡◌, ℕ, ◌==◌, not, cond, List, [], ◌∷◌, ◌++◌, length, Bool, Option, Some, None, is_some}
use Rattle.std.specs.Map.{lookup}
use Rattle.spec_lists.specs.Each.{each}
use Rattle.ir_tree.specs.Names.{same}
use Rattle.ir_tree.specs.Operands.{result_of}
use Rattle.ir_tree.specs.declared.locals.Local.{Local}
use Rattle.ir_tree.specs.declared.locals.LocalKind.{LocalKind}
use Rattle.ir_tree.specs.declared.locals.LocalKind.TheVariants.{Param, Result, Label}
use Rattle.ir_tree.specs.declared.types.Block.{Block}
use Rattle.ir_tree.specs.declared.types.Function.{Function}
use Rattle.ir_tree.specs.declared.types.Instr.{Instr}
use Rattle.ir_tree.specs.declared.types.Ret.{Ret}
use Rattle.ir_tree.specs.declared.types.Ty.{Ty}

-- a name with what it stands for
abbrev pub Entry : Type 0
Entry = List ℕ × Local

abbrev pub local : LocalKind → ℕ → ℕ → Local
local kind b i = record { kind = kind; block = b; item = i }

abbrev pub param : ℕ → Ty × List ℕ → List Entry
param i p = (p.1, local (Param p.0) 0 i) ∷ []

abbrev pub as_result : ℕ → ℕ → Option (List ℕ × Ret) → List Entry
as_result b i None = []
as_result b i (Some r) = (r.0, local (Result r.1) b i) ∷ []

abbrev pub result_at : ℕ → ℕ → Instr → List Entry
result_at b i x = as_result b i (result_of x)

unfoldable pub block_locals : ℕ → Block → List Entry
block_locals b block = (block.label, local Label b 0) ∷ each (result_at b) 0 block.instrs

-- parameters, labels and results in text order; a declared function has none
unfoldable pub locals : Function → List Entry
locals f = cond (length f.blocks == 0) [] (each param 0 f.params ++ each block_locals 0 f.blocks)

-- what a name of the function stands for, by its first occurrence
abbrev pub first_local : Function → List ℕ → Option Local
first_local f name = lookup (same name) (locals f)
