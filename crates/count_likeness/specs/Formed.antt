-- What acceptance gives of a function that counting stands on.
use Rattle.std.specs.Prelude.{◌≡◌, ℕ, suc, ◌≤◌, true, List, count_by, Some, is_some, slice_get}
use Rattle.count_likeness.specs.Fits.{EntriesFit}
use Rattle.ir_tree.specs.Blocks.{labels}
use Rattle.ir_tree.specs.Locals.{first_local}
use Rattle.ir_tree.specs.Names.{same}
use Rattle.ir_tree.specs.Operands.{Entries, operands, term_operand}
use Rattle.ir_tree.specs.Phis.{entries_of}
use Rattle.ir_tree.specs.Successors.{successors}
use Rattle.ir_tree.specs.declared.types.Block.{Block}
use Rattle.ir_tree.specs.declared.types.Function.{Function}
use Rattle.ir_tree.specs.declared.types.Instr.{Instr}
use Rattle.ir_tree.specs.declared.types.Module.{Module}
use Rattle.ir_tree.specs.declared.types.Operand.TheVariants.{Local}
use Rattle.ir_tree.specs.declared.types.Ty.{Ty}

-- Its labels are distinct; terminators lead to blocks behind the first; each phi has an entry for each position that leads to its
-- block, and one value for each block; and a local operand is a parameter or result of the function
pub record IsFormed (f : Function) : Type 0 where
  pub distinct : (l : List ℕ) → count_by (same l) (labels f.blocks) ≤ 1
  pub targets : (j p : ℕ) (b : Block) (to : List ℕ) → slice_get f.blocks j ≡ Some b → slice_get (successors b.term) p ≡ Some to → (h : ℕ) × (c : Block) × (slice_get f.blocks (suc h) ≡ Some c) × (c.label ≡ to)
  pub entries : (j i : ℕ) (b : Block) (x : Instr) (es : Entries) → slice_get f.blocks j ≡ Some b → slice_get b.instrs i ≡ Some x → entries_of x ≡ Some es → EntriesFit f.blocks b.label es
  pub known : (j i n : ℕ) (b : Block) (x : Instr) (t : Ty) (r : List ℕ) → slice_get f.blocks j ≡ Some b → slice_get b.instrs i ≡ Some x → slice_get (operands x) n ≡ Some (t, Local r) → is_some (first_local f r) ≡ true
  pub known_at_exit : (j : ℕ) (b : Block) (t : Ty) (r : List ℕ) → slice_get f.blocks j ≡ Some b → term_operand b.term ≡ Some (t, Local r) → is_some (first_local f r) ≡ true

-- each function of a module
abbrev pub AreFormed : Module → Type 0
AreFormed m = (j : ℕ) (f : Function) → slice_get m.functions j ≡ Some f → IsFormed f
