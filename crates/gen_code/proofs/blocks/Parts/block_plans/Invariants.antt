use Rattle.std.proofs.Common.{◌≡◌, [], ◌∷◌, take}
use Rattle.gen_plan.specs.Gen.{gen_block}
use Rattle.spec_lists.specs.Each.{each}
use Rattle.gen_code.proofs.blocks.Parts.block_plans.Given as goal

abbrev pub invariant-loop-number : goal.invariant-loop-number
invariant-loop-number l =
    l.plans.items ≡ each (λ b block. gen_block l.self.function.now l.self.placing.graph.now l.self.placing.counted.now b block ∷ []) 0 (take l.number l.blocks)
