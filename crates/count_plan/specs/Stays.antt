-- Plans that put nothing into a block.
use Rattle.std.specs.Prelude.{◌≡◌, ℕ, List, [], None}
use Rattle.count_plan.specs.Counted.{counted_block, new_blocks, watch_at}
use Rattle.count_plan.specs.Ways.{new_at, renamings}
use Rattle.count_plan.specs.declared.plan.BlockPlan.{BlockPlan}
use Rattle.count_plan.specs.declared.plan.FunctionPlan.{FunctionPlan}
use Rattle.count_plan.specs.declared.plan.Watch.TheVariants.{Nothing}
use Rattle.ir_tree.specs.declared.types.Block.{Block}

pub record PutsNothing (plan : BlockPlan) : Type 0 where
  pub head : plan.head ≡ None
  pub tail : plan.tail ≡ None
  pub watches : (i : ℕ) → watch_at plan i ≡ Nothing
  pub edges : (p : ℕ) → new_at plan p ≡ None

-- the block is as it was, with no new block behind it
pub record Stays (unit : FunctionPlan) (bs : List Block) (plan : BlockPlan) (b : Block) : Type 0 where
  pub block : counted_block unit bs plan b ≡ b
  pub alone : new_blocks unit plan b ≡ []

-- where nothing is put into a block, and no new block leads to it, it stays
abbrev pub BlocksStay : Type 0
BlocksStay = (unit : FunctionPlan) (bs : List Block) (plan : BlockPlan) (b : Block) → PutsNothing plan → renamings unit.blocks bs b.label ≡ [] → Stays unit bs plan b
