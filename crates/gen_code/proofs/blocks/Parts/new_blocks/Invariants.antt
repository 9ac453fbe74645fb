use Rattle.std.proofs.Common.{◌≡◌, [], ◌∷◌, take}
use Rattle.gen_plan.specs.Placing.{new_on}
use Rattle.ir_tree.specs.Successors.{successors}
use Rattle.spec_lists.specs.Each.{each}
use Rattle.gen_code.proofs.blocks.Parts.new_blocks.Given as goal

abbrev pub invariant-loop-position : goal.invariant-loop-position
invariant-loop-position l =
    l.news.items ≡ each (λ p to. new_on l.self.function.now l.self.placing.graph.now l.self.placing.counted.now l.block p ∷ []) 0 (take l.position (successors l.term))
