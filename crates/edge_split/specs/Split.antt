-- One new block on one edge: an empty block that branches to where the edge led.
use Rattle.std.specs.Prelude.{◌≡◌, ℕ, zero, suc, ◌+◌, ◌*◌, List, [], ◌∷◌, ◌++◌, take, drop, Option, None, Some, slice_set}
use Rattle.count_plan.specs.Counted.{counted_block, counted_function, new_blocks, no_function_plan}
use Rattle.count_plan.specs.Ways.{block_plan, no_block_plan}
use Rattle.count_plan.specs.declared.plan.BlockPlan.{BlockPlan}
use Rattle.count_plan.specs.declared.plan.FunctionPlan.{FunctionPlan}
use Rattle.ir_model.specs.Run.{IsValidCall, marks, run_of}
use Rattle.ir_model.specs.State.{Shown, Returns}
use Rattle.ir_model.specs.declared.result.Call.{Call}
use Rattle.ir_tree.specs.declared.types.Block.{Block}
use Rattle.ir_tree.specs.declared.types.Function.{Function}
use Rattle.ir_tree.specs.declared.types.Module.{Module}
use Rattle.spec_lists.specs.Each.{each}
use Rattle.spec_machines.specs.Machine.{Ended}

-- a list with one item at place n, behind so many that say nothing
abbrev pub at_place : {A : Type 0} → A → ℕ → A → List A
at_place nothing zero x = x ∷ []
at_place nothing (suc n) x = nothing ∷ at_place nothing n x

-- a new block without a counter on the way out by the successor at position p
abbrev pub split_block : ℕ → List ℕ → BlockPlan
split_block p new = record no_block_plan { edges = at_place None p (Some (record { label = new; counter = None })) }

-- the same on the edge of block a
abbrev pub split_plan : ℕ → ℕ → List ℕ → FunctionPlan
split_plan a p new = record no_function_plan { blocks = at_place no_block_plan a (split_block p new) }

-- The function with a new block of this label on the edge from block a by its successor at position p. The block stands directly
-- behind block a, and of each phi of the block to which it branches the first entry for block a names it
abbrev pub split : ℕ → ℕ → List ℕ → Function → Function
split a p new f = counted_function (split_plan a p new) f

-- the blocks of the function, changed, and the new one
abbrev pub changed_blocks : FunctionPlan → List Block → List Block
changed_blocks unit bs = each (λ j b. counted_block unit bs (block_plan unit.blocks j) b ∷ []) 0 bs

abbrev pub added_blocks : FunctionPlan → List Block → List Block
added_blocks unit bs = each (λ j b. new_blocks unit (block_plan unit.blocks j) b) 0 bs

-- the same with the new block before this place of the list
abbrev pub split_before : ℕ → ℕ → ℕ → List ℕ → Function → Function
split_before place a p new f = record f {
  blocks = take place (changed_blocks (split_plan a p new) f.blocks) ++ (added_blocks (split_plan a p new) f.blocks ++ drop place (changed_blocks (split_plan a p new) f.blocks));
}

-- a module with another function at a place
abbrev pub with_function : Module → ℕ → Function → Module
with_function m j f = record m { functions = slice_set m.functions j f }

-- each call that returns has the same marks in both modules
abbrev pub MarksStay : Module → Module → ℕ → ℕ → Type 0
MarksStay m m' most late =
    (c : Call) (n : ℕ) → IsValidCall m c → (shown : List Shown) (value : Option ℕ) → run_of m c n ≡ Ended shown (Returns value)
    → (shown' : List Shown) × (run_of m' c (most * n + late) ≡ Ended shown' (Returns value)) × (marks shown' ≡ marks shown)
