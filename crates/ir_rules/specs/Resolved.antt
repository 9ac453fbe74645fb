-- A function whose operands and entries the look-up of names resolves, so that rule 16 can be told by blocks and items.
use Rattle.std.specs.Prelude.{◌≡◌, ℕ, ◌<◌, false, List, length, Some, slice_get}
use Rattle.ir_rules.specs.Distinct.{distinct}
use Rattle.ir_rules.specs.Existing.{existing, value_names}
use Rattle.ir_rules.specs.Finding.{IsNamed}
use Rattle.ir_rules.specs.Lists.{Among}
use Rattle.ir_rules.specs.Parts.{FunctionKeeps}
use Rattle.ir_rules.specs.PhiEntries.{phi_entries}
use Rattle.ir_rules.specs.Scopes.{term_reads}
use Rattle.ir_tree.specs.Blocks.{labels}
use Rattle.ir_tree.specs.Functions.{is_declared}
use Rattle.ir_tree.specs.Operands.{Entries, Use, operands}
use Rattle.ir_tree.specs.Phis.{entries_of}
use Rattle.ir_tree.specs.declared.types.Block.{Block}
use Rattle.ir_tree.specs.declared.types.Function.{Function}
use Rattle.ir_tree.specs.declared.types.Instr.{Instr}
use Rattle.ir_tree.specs.declared.types.Module.{Module}
use Rattle.ir_tree.specs.declared.types.Operand.{Operand}
use Rattle.ir_tree.specs.declared.types.Operand.TheVariants.{Local}

-- a function with few blocks whose names stand once, which reads parameters and results, and whose phis name blocks
pub record IsResolved (f : Function) : Type 0 where
  pub named : IsNamed f
  pub few : length f.blocks < 4294967296
  pub reads : (b i : ℕ) (block : Block) (x : Instr) (u : Use) (r : List ℕ) → slice_get f.blocks b ≡ Some block → slice_get block.instrs i ≡ Some x → Among u (operands x) → u.1 ≡ Local r → Among r (value_names f)
  pub exits : (b : ℕ) (block : Block) (u : Use) (r : List ℕ) → slice_get f.blocks b ≡ Some block → Among u (term_reads block.term) → u.1 ≡ Local r → Among r (value_names f)
  pub entries : (b i : ℕ) (block : Block) (x : Instr) (es : Entries) (v : Operand) (n : List ℕ) → slice_get f.blocks b ≡ Some block → slice_get block.instrs i ≡ Some x → entries_of x ≡ Some es → Among (v, n) es → Among n (labels f.blocks)

-- rules 6, 11 and 10 see to it
abbrev pub KeptAreResolved : Type 0
KeptAreResolved = (m : Module) (k : ℕ) (f : Function) → FunctionKeeps distinct k f → FunctionKeeps (existing m) k f → FunctionKeeps phi_entries k f → is_declared f ≡ false → length f.blocks < 4294967296 → IsResolved f
