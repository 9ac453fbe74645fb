use Rattle.std.proofs.Common.{◌≡◌, ◌++◌, take}
use Rattle.check_operands.specs.Broken.{first_broken}
use Rattle.ir_rules.specs.Parts.{block_places, place, unless}
use Rattle.spec_lists.specs.Each.{each}
use Rattle.check_operands.proofs.first.in_function.Given as goal

abbrev pub invariant-loop-b : goal.invariant-loop-b
invariant-loop-b l = l.found ≡ first_broken l.fn.scope.module.now (λ r. unless (r.head l.fn.k l.fn.scope.function.now) (place l.fn.k 0 0) ++ each (block_places r l.fn.k l.fn.scope.function.now) 0 (take l.b l.fn.scope.function.now.blocks))
