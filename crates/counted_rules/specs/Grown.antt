-- How much larger a function is that counts.
use Rattle.std.specs.Prelude.{◌≡◌, ℕ, ◌+◌, ◌*◌, ◌≤◌, Bool, List, length, sum_by}
use Rattle.count_plan.specs.Counted.{counted_function, watch_at}
use Rattle.count_plan.specs.Ways.{block_plan}
use Rattle.count_plan.specs.declared.plan.FunctionPlan.{FunctionPlan}
use Rattle.count_plan.specs.declared.plan.Watch.TheVariants.{Nothing}
use Rattle.counted_rules.specs.Kept.{IsReordered}
use Rattle.counted_rules.specs.PlanFits.{new_names}
use Rattle.ir_rules.specs.Limits.{function_arrays, has_result, total_of}
use Rattle.ir_rules.specs.Lists.{Among}
use Rattle.ir_tree.specs.Edges.{edges_in}
use Rattle.ir_tree.specs.Functions.{is_declared}
use Rattle.ir_tree.specs.Graphs.{is_select, is_site}
use Rattle.ir_tree.specs.Successors.{ways_out}
use Rattle.ir_tree.specs.declared.types.Block.{Block}
use Rattle.ir_tree.specs.declared.types.Function.{Function}
use Rattle.ir_tree.specs.declared.types.Instr.{Instr}

-- It is declared where the function was. It has at most twice as many ways out of its blocks, and one more for each new name; one
-- result more for each select and each call through a register, and none where the plan watches nothing; no select, no such call and
-- no array type more
pub record GrowsLittle (unit : FunctionPlan) (f : Function) : Type 0 where
  pub declared : is_declared (counted_function unit f) ≡ is_declared f
  pub edges : sum_by ways_out (counted_function unit f).blocks ≤ 2 * sum_by ways_out f.blocks
  pub by_names : sum_by ways_out (counted_function unit f).blocks ≤ sum_by ways_out f.blocks + length (new_names unit f.blocks)
  pub results : total_of has_result (counted_function unit f) ≤ total_of has_result f + (total_of is_select f + total_of is_site f)
  pub unwatched : ((j i : ℕ) → watch_at (block_plan unit.blocks j) i ≡ Nothing) → total_of has_result (counted_function unit f) ≤ total_of has_result f
  pub selects : total_of is_select (counted_function unit f) ≤ total_of is_select f
  pub sites : total_of is_site (counted_function unit f) ≤ total_of is_site f
  pub arrays : (size : ℕ) → Among size (function_arrays (counted_function unit f)) → Among size (function_arrays f)

-- as large as the function, in each quantity that has a limit
pub record IsAsLarge (f f2 : Function) : Type 0 where
  pub declared : is_declared f2 ≡ is_declared f
  pub edges : edges_in f2 ≡ edges_in f
  pub total : (test : Instr → Bool) → total_of test f2 ≡ total_of test f
  pub arrays : (size : ℕ) → Among size (function_arrays f2) → Among size (function_arrays f)

abbrev pub ReorderedAreAsLarge : Type 0
ReorderedAreAsLarge = (f : Function) (blocks : List Block) → IsReordered f.blocks blocks → IsAsLarge f (record f { blocks = blocks })

abbrev pub FunctionsGrowLittle : Type 0
FunctionsGrowLittle = (unit : FunctionPlan) (f : Function) → GrowsLittle unit f
