-- Rule 9. Phis stand before all other instructions of their block, and none in the first block.
use Rattle.std.specs.Prelude.{ℕ, Bool, not, ◌&&◌, ◌||◌, ◌==◌, nat_lt, List}
use Rattle.ir_rules.specs.Parts.{Rule, places, silent}
use Rattle.ir_rules.specs.declared.place.Place.{Place}
use Rattle.ir_tree.specs.Phis.{is_phi, phi_count}
use Rattle.ir_tree.specs.declared.types.Instr.{Instr}
use Rattle.ir_tree.specs.declared.types.Module.{Module}

-- a phi is one of those with which its block begins, and the block is not the first
abbrev pub is_placed_well : ℕ → List Instr → ℕ → Instr → Bool
is_placed_well b instrs i x = not (is_phi x) || (not (b == 0) && nat_lt i (phi_count instrs))

abbrev pub phi_places : Rule
phi_places = record silent { item = λ f b block i x. is_placed_well b block.instrs i x }

abbrev pub breaks_9 : Module → List Place
breaks_9 m = places phi_places m
