-- Counts of walks, by slots.
use Rattle.std.specs.Prelude.{◌≡◌, refl, ◌++◌, ℕ, ◌+◌, ◌-◌, ◌^◌, List, [], ◌∷◌, Option, Some, None, slice_get, slice_set, min}
use Rattle.ir_tree.specs.Functions.{numbered}
use Rattle.ir_tree.specs.declared.types.Module.{Module}
use Rattle.ir_model.specs.declared.result.Call.{Call}
use Rattle.spec_machines.specs.Machine.{shown_of}
use Rattle.ir_machine.specs.Slots.{all_slots}
use Rattle.ir_machine.specs.Steps.{call_run, sights}
use Rattle.ir_machine.specs.declared.slots.FunctionSlots.{FunctionSlots}
use Rattle.ir_machine.specs.declared.state.Sight.{Sight}
use Rattle.ir_machine.specs.declared.state.Sight.TheVariants.{Entered, Left, Added, Noted}

-- one more, but never past the highest number of 64 bits
abbrev pub one_more : ℕ → ℕ
one_more n = min (n + 1) (2 ^ 64 - 1)

abbrev pub raised_to : List ℕ → ℕ → Option ℕ → List ℕ
raised_to counts slot None = counts
raised_to counts slot (Some n) = slice_set counts slot (one_more n)

-- the counts with one more at this slot, if there is such a slot
abbrev pub raised : List ℕ → ℕ → List ℕ
raised counts slot = raised_to counts slot (slice_get counts slot)

-- one more for the entry of a function with these slots
abbrev pub raised_entry : List ℕ → Option FunctionSlots → List ℕ
raised_entry counts None = counts
raised_entry counts (Some s) = raised counts s.entry

abbrev pub raised_way : List ℕ → ℕ → Option ℕ → List ℕ
raised_way counts position None = counts
raised_way counts position (Some start) = raised counts (start + position)

-- one more for the edge out of a block of a function with these slots
abbrev pub raised_out : List ℕ → ℕ → ℕ → Option FunctionSlots → List ℕ
raised_out counts block position None = counts
raised_out counts block position (Some s) = raised_way counts position (slice_get s.blocks block)

-- one more for the edge that is seen, if it is one
abbrev pub raised_by : List FunctionSlots → List ℕ → Sight → List ℕ
raised_by slots counts (Entered k) = raised_entry counts (slice_get slots k)
raised_by slots counts (Left k block position) = raised_out counts block position (slice_get slots k)
raised_by slots counts (Added counter step) = counts
raised_by slots counts (Noted site callee) = counts

-- the counts after all that was seen
abbrev pub counted : List FunctionSlots → List ℕ → List Sight → List ℕ
counted slots counts [] = counts
counted slots counts (s ∷ ss) = counted slots (raised_by slots counts s) ss

-- what is seen is counted in pieces
pub counted-append : (slots : List FunctionSlots) (counts : List ℕ) (xs ys : List Sight) → counted slots counts (xs ++ ys) ≡ counted slots (counted slots counts xs) ys
counted-append slots counts [] ys = refl
counted-append slots counts (x ∷ xs) ys = counted-append slots (raised_by slots counts x) xs ys

-- the counts after the entry of a call's function and what is seen of its run
abbrev pub call_counts : Module → Call → ℕ → List ℕ → List ℕ
call_counts m c n counts =
    counted (all_slots 0 (numbered m.functions)) (raised_by (all_slots 0 (numbered m.functions)) counts (Entered c.function)) (sights (shown_of (call_run m c n)))
