-- When a plan fits a module, so that the module made from it counts as an image says.
use Rattle.std.specs.Prelude.{◌≡◌, ℕ, suc, ◌+◌, ◌<◌, ◌≤◌, ◌^◌, Bool, true, false, not, cond, List, [], ◌∷◌, ◌++◌, flat_map, map, length, sum_by, count_by, take, drop, Option, None, Some, is_some, slice_get}
use Rattle.count_plan.specs.Calls.{watched}
use Rattle.count_plan.specs.Counted.{function_plan, watch_at}
use Rattle.count_plan.specs.Ways.{block_plan, new_at}
use Rattle.count_plan.specs.declared.plan.BlockPlan.{BlockPlan}
use Rattle.count_plan.specs.declared.plan.FunctionPlan.{FunctionPlan}
use Rattle.count_plan.specs.declared.plan.ModulePlan.{ModulePlan}
use Rattle.count_plan.specs.declared.plan.NewBlock.{NewBlock}
use Rattle.count_plan.specs.declared.plan.Watch.{Watch}
use Rattle.count_plan.specs.declared.plan.Watch.TheVariants.{Nothing, Condition, Target}
use Rattle.count_likeness.specs.Image.{Image}
use Rattle.ir_model.specs.Values.{functions_of, is_profile_global}
use Rattle.ir_tree.specs.Blocks.{labels}
use Rattle.ir_tree.specs.Functions.{is_profile_name}
use Rattle.ir_tree.specs.Graphs.{is_select, is_site}
use Rattle.ir_tree.specs.Names.{same}
use Rattle.ir_tree.specs.Operands.{Entries, Use, listed, operands, term_operand}
use Rattle.ir_tree.specs.Phis.{behind_phis, entries_of}
use Rattle.ir_tree.specs.Successors.{successors}
use Rattle.ir_tree.specs.declared.types.Block.{Block}
use Rattle.ir_tree.specs.declared.types.Function.{Function}
use Rattle.ir_tree.specs.declared.types.Global1.{Global1}
use Rattle.ir_tree.specs.declared.types.Instr.{Instr}
use Rattle.ir_tree.specs.declared.types.Module.{Module}
use Rattle.ir_tree.specs.declared.types.Operand.{Operand}
use Rattle.ir_tree.specs.declared.types.Operand.TheVariants.{Local}
use Rattle.ir_tree.specs.declared.types.Ty.{Ty}

-- ---- new registers

abbrev pub register_of : Watch → List (List ℕ)
register_of Nothing = []
register_of (Condition register counter) = register ∷ []
register_of (Target register site) = register ∷ []

-- the registers that a plan brings into a function
abbrev pub new_registers : FunctionPlan → List (List ℕ)
new_registers unit = flat_map (λ (q : BlockPlan). flat_map register_of q.watches) unit.blocks

-- the register is none of them
abbrev pub IsOld : FunctionPlan → List ℕ → Type 0
IsOld unit r = count_by (same r) (new_registers unit) ≡ 0

-- the registers among these operands are old
abbrev pub ReadOld : FunctionPlan → List Use → Type 0
ReadOld unit uses = (i : ℕ) (t : Ty) (r : List ℕ) → slice_get uses i ≡ Some (t, Local r) → IsOld unit r

-- ---- new blocks

abbrev pub label_of : Option NewBlock → List (List ℕ)
label_of None = []
label_of (Some new) = new.label ∷ []

-- the labels of the blocks that a plan brings into a function
abbrev pub new_labels : FunctionPlan → List (List ℕ)
new_labels unit = flat_map (λ (q : BlockPlan). flat_map label_of q.edges) unit.blocks

-- ---- phis

-- how many successor positions of the blocks labelled n name the block labelled l
abbrev pub positions : List ℕ → List ℕ → List Block → ℕ
positions n l bs = sum_by (λ b. cond {A = ℕ} (same n b.label) (count_by (same l) (successors b.term)) 0) bs

-- the labels that entries name
abbrev pub tails : Entries → List (List ℕ)
tails es = map (λ e. e.1) es

-- the entries of a phi of block l: as many for each name as positions, and one value for each name
pub record EntriesFit (bs : List Block) (l : List ℕ) (es : Entries) : Type 0 where
  pub count : (n : List ℕ) → count_by (same n) (tails es) ≡ positions n l bs
  pub value : (n : List ℕ) (i j : ℕ) (v w : Operand) → slice_get es i ≡ Some (v, n) → slice_get es j ≡ Some (w, n) → v ≡ w

-- ---- what is put at a place

abbrev pub counter_of : Watch → Option ℕ
counter_of Nothing = None
counter_of (Condition register counter) = Some counter
counter_of (Target register site) = None

abbrev pub site_of : Watch → Option ℕ
site_of Nothing = None
site_of (Condition register counter) = None
site_of (Target register site) = Some site

-- The instruction at place i behind the phis of a block: what stands before it counts what the image says, and leaves steps for
-- the instruction and one more. So many functions there are that their addresses are numbers of 64 bits, where a target is noted
pub record InstrFits (count k : ℕ) (unit : FunctionPlan) (image : Image) (most : ℕ) (plan : BlockPlan) (l : List ℕ) (i : ℕ) (x : Instr) : Type 0 where
  pub reads : ReadOld unit (operands x)
  pub condition : is_select x ≡ true → image.condition k l i ≡ counter_of (watch_at plan i)
  pub site : is_site x ≡ true → image.site k l i ≡ site_of (watch_at plan i)
  pub few : is_site x ≡ true → is_some (site_of (watch_at plan i)) ≡ true → count < 2 ^ 60
  pub cost : suc (length (watched unit (watch_at plan i) x) + 1) ≤ most

-- ---- ways out

abbrev pub counters_in : Option NewBlock → List ℕ
counters_in None = []
counters_in (Some new) = listed new.counter

-- the steps in the new block, the branch among them
abbrev pub steps_in : Option NewBlock → ℕ
steps_in None = 0
steps_in (Some new) = suc (length (listed new.counter))

-- The way out of a reached block by the successor at position p: it leads to a reached block, and the counters before the
-- terminator, on the way and at the head of that block are those of the way
pub record WayFits (k : ℕ) (unit : FunctionPlan) (image : Image) (most : ℕ) (f : Function) (reached : ℕ → Bool) (plan : BlockPlan) (b : Block) (p : ℕ) (to : List ℕ) : Type 0 where
  pub number : ℕ
  pub block : Block
  pub at : slice_get f.blocks number ≡ Some block
  pub named : block.label ≡ to
  pub goes_on : reached number ≡ true
  pub counters : image.way k b.label p ≡ listed plan.tail ++ (counters_in (new_at plan p) ++ listed (block_plan unit.blocks number).head)
  pub cost : suc (length (listed plan.tail) + (steps_in (new_at plan p) + length (listed (block_plan unit.blocks number).head))) ≤ most

-- a reached block
pub record BlockFits (count k : ℕ) (unit : FunctionPlan) (image : Image) (most : ℕ) (f : Function) (reached : ℕ → Bool) (plan : BlockPlan) (b : Block) : Type 0 where
  pub instr : (i : ℕ) (x : Instr) → slice_get (behind_phis b.instrs) i ≡ Some x → InstrFits count k unit image most plan b.label i x
  pub phi_reads : (i : ℕ) (x : Instr) → slice_get b.instrs i ≡ Some x → ReadOld unit (operands x)
  pub entries : (i : ℕ) (x : Instr) (es : Entries) → slice_get b.instrs i ≡ Some x → entries_of x ≡ Some es → EntriesFit f.blocks b.label es
  pub term_reads : (t : Ty) (r : List ℕ) → term_operand b.term ≡ Some (t, Local r) → IsOld unit r
  pub ways : (p : ℕ) (to : List ℕ) → slice_get (successors b.term) p ≡ Some to → WayFits k unit image most f reached plan b p to
  pub exit : successors b.term ≡ [] → image.way k b.label 0 ≡ listed plan.tail
  pub exit_cost : suc (length (listed plan.tail) + 1) ≤ most

-- The function of number k, of so many. Its labels and those of the new blocks are distinct. `reached` tells of blocks, by number, those that a walk from the entry may come to
pub record FunctionFits (count k : ℕ) (unit : FunctionPlan) (image : Image) (most late : ℕ) (f : Function) : Type 0 where
  pub reached : ℕ → Bool
  pub entry : reached 0 ≡ true
  pub named : image.unit k ≡ drop 8 unit.symbol
  pub distinct : (l : List ℕ) → count_by (same l) (labels f.blocks) + count_by (same l) (new_labels unit) ≤ 1
  pub block : (j : ℕ) (b : Block) → slice_get f.blocks j ≡ Some b → reached j ≡ true → BlockFits count k unit image most f reached (block_plan unit.blocks j) b
  pub enters : (b : Block) → slice_get f.blocks 0 ≡ Some b → image.entry k ≡ listed (block_plan unit.blocks 0).head
  pub start : length (listed (block_plan unit.blocks 0).head) ≤ late

-- the number of the function at a place of the module
abbrev pub number_at : Module → ℕ → ℕ
number_at m j = count_by (λ (f : Function). not (is_profile_name f.name)) (take j m.functions)

-- a step of the original takes one at least, each function with a number fits, and the globals and declarations that are put in are those of a profile
pub record ModuleFits (plan : ModulePlan) (image : Image) (most late : ℕ) (m : Module) : Type 0 where
  pub some : 1 ≤ most
  pub function : (j : ℕ) (f : Function) → slice_get m.functions j ≡ Some f → is_profile_name f.name ≡ false → FunctionFits (functions_of m) (number_at m j) (function_plan plan.functions j) image most late f
  pub globals : (i : ℕ) (g : Global1) → slice_get plan.globals i ≡ Some g → is_profile_global g.name ≡ true
  pub declarations : (i : ℕ) (f : Function) → slice_get plan.declarations i ≡ Some f → is_profile_name f.name ≡ true
