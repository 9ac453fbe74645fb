-- A block with what is put into it, where the renamings of phis have been gathered.
use Rattle.std.specs.Prelude.{ℕ, List, ◌∷◌}
use Rattle.count_insert.specs.Lists.{renamings_at}
use Rattle.count_insert.specs.declared.heads.Heads.{Heads}
use Rattle.count_plan.specs.Counted.{counted_instrs, new_blocks}
use Rattle.count_plan.specs.Ways.{block_plan, led}
use Rattle.count_plan.specs.declared.plan.FunctionPlan.{FunctionPlan}
use Rattle.ir_tree.specs.Blocks.{block_with}
use Rattle.ir_tree.specs.declared.types.Block.{Block}

-- the block of number j and the new blocks behind it
abbrev pub pieces_at : FunctionPlan → Heads → ℕ → Block → List Block
pieces_at unit heads j b =
    block_with b.label (counted_instrs unit (block_plan unit.blocks j) (renamings_at heads b.label) b.instrs) (led (block_plan unit.blocks j) b.term)
    ∷ new_blocks unit (block_plan unit.blocks j) b
