use Rattle.std.proofs.Common.{◌≡◌, ℕ, List, ◌++◌, drop}
use Rattle.count_insert.specs.Lists.{renamings_at}
use Rattle.count_plan.specs.Ways.{block_plan, renamings, renamings_from}
use Rattle.spec_lists.specs.Each.{each}
use Rattle.count_insert.proofs.heads.Heads.of.Given as goal

abbrev pub invariant-loop-j : goal.invariant-loop-j
invariant-loop-j l =
    (q : List ℕ) → renamings_at l.heads q ++ each (λ j b. renamings_from q (block_plan l.plans j) b) l.j (drop l.j l.blocks) ≡ renamings l.plans l.blocks q
