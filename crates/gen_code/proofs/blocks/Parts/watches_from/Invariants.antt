use Rattle.std.proofs.Common.{◌≡◌, ◌+◌, [], ◌∷◌, take}
use Rattle.gen_plan.specs.Gen.{watch_of}
use Rattle.spec_lists.specs.Each.{each}
use Rattle.gen_code.proofs.blocks.Parts.watches_from.Given as goal

abbrev pub invariant-loop-i : goal.invariant-loop-i
invariant-loop-i l =
    l.watches.items ≡ each (λ i x. watch_of l.self.function.now l.self.placing.graph.now l.self.placing.counted.now l.block (l.item + i) x ∷ []) 0 (take l.i l.instrs)
