use Rattle.std.proofs.Common.{◌≡◌, ℕ, List, ◌++◌, drop}
use Rattle.count_insert.specs.Lists.{renamings_at}
use Rattle.count_plan.specs.Ways.{new_at, renaming}
use Rattle.ir_tree.specs.Names.{same}
use Rattle.ir_tree.specs.Successors.{successors}
use Rattle.spec_lists.specs.Each.{each}
use Rattle.count_insert.proofs.heads.Heads.add_block.Given as goal

abbrev pub invariant-loop-position : goal.invariant-loop-position
invariant-loop-position l =
    (q : List ℕ) → renamings_at l.self q ++ each (λ p to. renaming (same q to) l.block.label (new_at l.plan p)) l.position (drop l.position (successors l.block.term))
    ≡ renamings_at l.initial.self q ++ each (λ p to. renaming (same q to) l.block.label (new_at l.plan p)) 0 (successors l.block.term)
