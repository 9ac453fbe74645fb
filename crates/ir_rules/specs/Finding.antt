-- What the look-up of a name in a function tells, in place of a search of the lists of names: an operand is resolved once, and rules
-- look at the block and item that were found.
use Rattle.std.specs.Prelude.{◌≡◌, ℕ, ◌<◌, ◌≤◌, Bool, true, false, ◌↔◌, not, ◌&&◌, ◌||◌, ◌==◌, nat_lt, List, [], ◌∷◌, length, take, Option, None, Some, slice_get, slice_set}
use Rattle.ir_rules.specs.Assigned.{is_before, is_held, is_held_behind}
use Rattle.ir_rules.specs.Existing.{value_names}
use Rattle.ir_rules.specs.Lists.{Among, times}
use Rattle.ir_rules.specs.Scopes.{names, param_names, values}
use Rattle.ir_tree.specs.Edges.{rows}
use Rattle.ir_tree.specs.Functions.{is_declared}
use Rattle.ir_tree.specs.Locals.{first_local}
use Rattle.ir_tree.specs.Operands.{result_name, result_names}
use Rattle.ir_tree.specs.Reach.{is_marked, reached}
use Rattle.ir_tree.specs.declared.locals.Local.{Local}
use Rattle.ir_tree.specs.declared.locals.LocalKind.{LocalKind}
use Rattle.ir_tree.specs.declared.locals.LocalKind.TheVariants.{Param, Result, Label}
use Rattle.ir_tree.specs.declared.types.Block.{Block}
use Rattle.ir_tree.specs.declared.types.Function.{Function}
use Rattle.ir_tree.specs.declared.types.Instr.{Instr}
use Rattle.ir_tree.specs.declared.types.Operand.TheVariants as operand
use Rattle.ir_tree.specs.declared.types.Ret.{Ret}
use Rattle.ir_tree.specs.declared.types.Ret.TheVariants.{Value}

-- ---- what was found

-- the type of a parameter or result
abbrev pub kind_ret : LocalKind → Option Ret
kind_ret (Param t) = Some (Value t)
kind_ret (Result r) = Some r
kind_ret Label = None

abbrev pub ret_found : Option Local → Option Ret
ret_found None = None
ret_found (Some l) = kind_ret l.kind

-- the number of a label's block
abbrev pub kind_label : LocalKind → ℕ → Option ℕ
kind_label (Param t) b = None
kind_label (Result r) b = None
kind_label Label b = Some b

abbrev pub label_found : Option Local → Option ℕ
label_found None = None
label_found (Some l) = kind_label l.kind l.block

-- the block and item of a result
abbrev pub kind_result : LocalKind → ℕ → ℕ → Option (ℕ × ℕ)
kind_result (Param t) b i = None
kind_result (Result r) b i = Some (b, i)
kind_result Label b i = None

abbrev pub result_found : Option Local → Option (ℕ × ℕ)
result_found None = None
result_found (Some l) = kind_result l.kind l.block l.item

abbrev pub kind_is_param : LocalKind → Bool
kind_is_param (Param t) = true
kind_is_param (Result r) = false
kind_is_param Label = false

abbrev pub is_param_found : Option Local → Bool
is_param_found None = false
is_param_found (Some l) = kind_is_param l.kind

-- ---- what it tells

-- block b has the label
abbrev pub IsLabelOf : Function → List ℕ → ℕ → Type 0
IsLabelOf f n b = (block : Block) × (slice_get f.blocks b ≡ Some block) × (block.label ≡ n)

-- instruction i of block b gives the result
abbrev pub IsResultOf : Function → List ℕ → ℕ → ℕ → Type 0
IsResultOf f n b i = (block : Block) × (x : Instr) × (slice_get f.blocks b ≡ Some block) × (slice_get block.instrs i ≡ Some x) × (result_name x ≡ Some n)

pub record FindsNames (f : Function) : Type 0 where
  pub value : (n : List ℕ) (r : Ret) → Among (n, r) (values f) ↔ (ret_found (first_local f n) ≡ Some r)
  pub label : (n : List ℕ) (b : ℕ) → IsLabelOf f n b ↔ (label_found (first_local f n) ≡ Some b)
  pub result : (n : List ℕ) (b i : ℕ) → IsResultOf f n b i ↔ (result_found (first_local f n) ≡ Some (b, i))
  pub param : (n : List ℕ) → Among n (param_names f) ↔ (is_param_found (first_local f n) ≡ true)
  pub within : (n : List ℕ) (l : Local) → first_local f n ≡ Some l → l.block < length f.blocks

-- a function with blocks whose names stand once
pub record IsNamed (f : Function) : Type 0 where
  pub defined : is_declared f ≡ false
  pub once : (n : List ℕ) → times n (names f) ≤ 1

abbrev pub LookUpsTell : Type 0
LookUpsTell = (f : Function) → IsNamed f → FindsNames f

-- a result is assigned before block b exactly where no walk reaches b without leaving the block that gives it
abbrev pub GiversDecide : Type 0
GiversDecide = (f : Function) → IsNamed f → (n : List ℕ) (d i b : ℕ) → IsResultOf f n d i → is_before f.blocks n b ≡ not (is_marked (reached (slice_set (rows f.blocks) d [])) b)

-- ---- whether a register is held, by what its look-up finds

-- block b can be reached without leaving block d
unfoldable pub is_open_without : List (List ℕ) → ℕ → ℕ → Bool
is_open_without rows d b = is_marked (reached (slice_set rows d [])) b

-- at item i of block b: a parameter is held, and a result that stands before in the block, or that every walk to the block assigns
abbrev pub kind_is_held : LocalKind → List (List ℕ) → ℕ → ℕ → Local → Bool
kind_is_held (Param t) rows b i l = true
kind_is_held (Result r) rows b i l = (l.block == b && nat_lt l.item i) || not (is_open_without rows l.block b)
kind_is_held Label rows b i l = false

abbrev pub is_held_found : List (List ℕ) → ℕ → ℕ → Option Local → Bool
is_held_found rows b i None = false
is_held_found rows b i (Some l) = kind_is_held l.kind rows b i l

-- at the end of block e: a result of the block too, wherever it stands
abbrev pub kind_is_held_at_end : LocalKind → List (List ℕ) → ℕ → Local → Bool
kind_is_held_at_end (Param t) rows e l = true
kind_is_held_at_end (Result r) rows e l = (l.block == e) || not (is_open_without rows l.block e)
kind_is_held_at_end Label rows e l = false

abbrev pub is_held_at_end : List (List ℕ) → ℕ → Option Local → Bool
is_held_at_end rows e None = false
is_held_at_end rows e (Some l) = kind_is_held_at_end l.kind rows e l

-- A register that is a parameter or result is held where its look-up says so: at an item of a block behind the results before it,
-- at the terminator behind all of them, and at the end of the block that a label names
pub record HeldAsFound (f : Function) : Type 0 where
  pub item : (b i : ℕ) (block : Block) (r : List ℕ) → slice_get f.blocks b ≡ Some block → Among r (value_names f) → is_held f b (result_names (take i block.instrs)) r ≡ is_held_found (rows f.blocks) b i (first_local f r)
  pub exit : (b : ℕ) (block : Block) (r : List ℕ) → slice_get f.blocks b ≡ Some block → Among r (value_names f) → is_held f b (result_names block.instrs) r ≡ is_held_found (rows f.blocks) b (length block.instrs) (first_local f r)
  pub end : (e : ℕ) (n r : List ℕ) → IsLabelOf f n e → Among r (value_names f) → is_held_behind f (operand.Local r) n 0 f.blocks ≡ is_held_at_end (rows f.blocks) e (first_local f r)

abbrev pub RegistersAreFound : Type 0
RegistersAreFound = (f : Function) → IsNamed f → HeldAsFound f
