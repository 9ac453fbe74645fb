-- The module that counts: what a plan makes of a module.
use Rattle.std.specs.Prelude.{ℕ, ◌+◌, List, [], ◌∷◌, ◌++◌, map, Option, None, Some, slice_index_or}
use Rattle.count_plan.specs.Calls.{increments, watched}
use Rattle.count_plan.specs.Ways.{block_plan, led, new_at, renamed_phi, renamings}
use Rattle.count_plan.specs.declared.plan.BlockPlan.{BlockPlan}
use Rattle.count_plan.specs.declared.plan.FunctionPlan.{FunctionPlan}
use Rattle.count_plan.specs.declared.plan.ModulePlan.{ModulePlan}
use Rattle.count_plan.specs.declared.plan.NewBlock.{NewBlock}
use Rattle.count_plan.specs.declared.plan.Watch.{Watch}
use Rattle.count_plan.specs.declared.plan.Watch.TheVariants.{Nothing}
use Rattle.ir_tree.specs.Blocks.{block_with}
use Rattle.ir_tree.specs.Phis.{behind_phis, leading_phis}
use Rattle.ir_tree.specs.Successors.{successors}
use Rattle.ir_tree.specs.declared.types.Block.{Block}
use Rattle.ir_tree.specs.declared.types.Function.{Function}
use Rattle.ir_tree.specs.declared.types.Instr.{Instr}
use Rattle.ir_tree.specs.declared.types.Module.{Module}
use Rattle.ir_tree.specs.declared.types.Term.TheVariants.{Br}
use Rattle.spec_lists.specs.Each.{each}

-- ---- blocks

-- what stands before the instruction at place i behind the phis
abbrev pub watch_at : BlockPlan → ℕ → Watch
watch_at plan i = slice_index_or plan.watches i Nothing

-- instructions from place i on, each behind what is put before it, and then the counter that rises before the terminator
abbrev pub counted_from : FunctionPlan → BlockPlan → ℕ → List Instr → List Instr
counted_from unit plan i [] = increments unit plan.tail
counted_from unit plan i (x ∷ xs) = watched unit (watch_at plan i) x ++ (x ∷ counted_from unit plan (i + 1) xs)

-- the phis, then the counter that rises at the head, then the other instructions
abbrev pub counted_instrs : FunctionPlan → BlockPlan → List (List ℕ × List ℕ) → List Instr → List Instr
counted_instrs unit plan rs is = map (renamed_phi rs) (leading_phis is) ++ (increments unit plan.head ++ counted_from unit plan 0 (behind_phis is))

abbrev pub counted_block : FunctionPlan → List Block → BlockPlan → Block → Block
counted_block unit bs plan b = block_with b.label (counted_instrs unit plan (renamings unit.blocks bs b.label) b.instrs) (led plan b.term)

-- the new block on a way to this label: its counter, and a branch to the label
abbrev pub put_on : FunctionPlan → List ℕ → Option NewBlock → List Block
put_on unit to None = []
put_on unit to (Some new) = block_with new.label (increments unit new.counter) (Br to) ∷ []

-- the new blocks on the ways out of a block, in order of position
abbrev pub new_blocks : FunctionPlan → BlockPlan → Block → List Block
new_blocks unit plan b = each (λ p to. put_on unit to (new_at plan p)) 0 (successors b.term)

-- a block, and directly behind it the new blocks on its ways out
abbrev pub counted_pieces : FunctionPlan → List Block → ℕ → Block → List Block
counted_pieces unit bs j b = counted_block unit bs (block_plan unit.blocks j) b ∷ new_blocks unit (block_plan unit.blocks j) b

abbrev pub counted_blocks : FunctionPlan → List Block → List Block
counted_blocks unit bs = each (counted_pieces unit bs) 0 bs

-- ---- functions and modules

abbrev pub counted_function : FunctionPlan → Function → Function
counted_function unit f = record f { blocks = counted_blocks unit f.blocks }

-- the plan that puts nothing into a function
abbrev pub no_function_plan : FunctionPlan
no_function_plan = record { symbol = []; hash = 0; counters = 0; blocks = [] }

-- the plan of the function of this place in the module
abbrev pub function_plan : List FunctionPlan → ℕ → FunctionPlan
function_plan plans j = slice_index_or plans j no_function_plan

abbrev pub counted_functions : List FunctionPlan → List Function → List Function
counted_functions plans fs = each (λ j f. counted_function (function_plan plans j) f ∷ []) 0 fs

abbrev pub counted_module : ModulePlan → Module → Module
counted_module plan m = record {
  globals = m.globals ++ plan.globals;
  functions = counted_functions plan.functions m.functions ++ plan.declarations;
}
