use Rattle.std.proofs.Common.{◌≡◌, drop}
use Rattle.check_counting.specs.Checking.{item_places, keeps}
use Rattle.ir_rules.specs.Parts.{place, unless}
use Rattle.spec_lists.specs.Each.{each, first_of}
use Rattle.check_counting.proofs.walk.off_in_block.Given as goal

abbrev pub invariant-loop-i : goal.invariant-loop-i
invariant-loop-i l = first_of (each (λ i x. unless (keeps l.checked l.«module» x) (place l.k l.b i)) l.i (drop l.i l.block.instrs)) ≡ first_of (item_places (keeps l.checked l.«module») l.k l.b l.block)
