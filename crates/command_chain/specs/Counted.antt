-- Counts by slots as counts of edges.
use Rattle.std.specs.Prelude.{◌≡◌, ℕ, List, Option, get_or}
use Rattle.ir_tree.specs.declared.types.Module.{Module}
use Rattle.ir_model.specs.declared.result.Call.{Call}
use Rattle.ir_model.specs.Log.{traversals_of_all}
use Rattle.ir_machine.specs.Slots.{HasEdge, slot_of}
use Rattle.command_chain.specs.Report.{Count}

-- the count at the slot of an edge
abbrev pub counted_at : Module → List ℕ → Count
counted_at m counts k e = get_or counts (slot_of m k e.block e.position) 0

-- at the slot of each edge stands how often the calls walk it
abbrev pub AreWalks : Module → ℕ → List Call → List ℕ → Type 0
AreWalks m steps calls counts =
    (k : ℕ) (block : Option ℕ) (position : ℕ) → HasEdge m k block position → get_or counts (slot_of m k block position) 0 ≡ traversals_of_all m k block position calls steps
