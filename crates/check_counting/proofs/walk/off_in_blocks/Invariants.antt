use Rattle.std.proofs.Common.{◌≡◌, drop}
use Rattle.check_counting.specs.Checking.{item_places, keeps}
use Rattle.spec_lists.specs.Each.{each, first_of}
use Rattle.check_counting.proofs.walk.off_in_blocks.Given as goal

abbrev pub invariant-loop-b : goal.invariant-loop-b
invariant-loop-b l = first_of (each (item_places (keeps l.checked l.«module») l.k) l.b (drop l.b l.blocks)) ≡ first_of (each (item_places (keeps l.checked l.«module») l.k) 0 l.blocks)
