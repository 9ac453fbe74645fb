use Rattle.std.proofs.Common.{◌≡◌, ◌++◌, take}
use Rattle.check_operands.specs.Broken.{first_broken}
use Rattle.ir_rules.specs.Parts.{place, unless}
use Rattle.spec_lists.specs.Each.{each}
use Rattle.check_operands.proofs.first.in_items.Given as goal

abbrev pub invariant-loop-i : goal.invariant-loop-i
invariant-loop-i l = l.found ≡ first_broken l.fn.scope.module.now (λ r. unless (r.label l.fn.scope.function.now l.fn.b l.fn.block) (place l.fn.k l.fn.b 0) ++ each (λ i x. unless (r.item l.fn.scope.function.now l.fn.b l.fn.block i x) (place l.fn.k l.fn.b i)) 0 (take l.i l.fn.block.instrs))
