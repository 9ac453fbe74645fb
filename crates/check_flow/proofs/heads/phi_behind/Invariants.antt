use Rattle.std.proofs.Common.{◌≡◌, drop}
use Rattle.check_flow.specs.LookUps.{item_places}
use Rattle.ir_rules.specs.Parts.{place, unless}
use Rattle.ir_rules.specs.PhiPlaces.{is_placed_well}
use Rattle.spec_lists.specs.Each.{each, first_of}
use Rattle.check_flow.proofs.heads.phi_behind.Given as goal

abbrev pub invariant-loop-i : goal.invariant-loop-i
invariant-loop-i l = first_of (each (λ i x. unless (is_placed_well l.b l.block.instrs i x) (place l.k l.b i)) l.i (drop l.i l.block.instrs)) ≡ first_of (item_places is_placed_well l.k l.b l.block)
