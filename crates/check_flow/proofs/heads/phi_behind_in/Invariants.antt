use Rattle.std.proofs.Common.{◌≡◌, drop}
use Rattle.check_flow.specs.LookUps.{item_places}
use Rattle.ir_rules.specs.PhiPlaces.{is_placed_well}
use Rattle.spec_lists.specs.Each.{each, first_of}
use Rattle.check_flow.proofs.heads.phi_behind_in.Given as goal

abbrev pub invariant-loop-b : goal.invariant-loop-b
invariant-loop-b l = first_of (each (item_places is_placed_well l.k) l.b (drop l.b l.blocks)) ≡ first_of (each (item_places is_placed_well l.k) 0 l.blocks)
