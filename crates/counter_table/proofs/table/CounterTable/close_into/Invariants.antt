use Rattle.std.proofs.Common.{◌≡◌, ℕ, ◌<◌, slice_index}
use Rattle.std.specs.Mem.Slots.{slots_items}
use Rattle.counter_table.proofs.table.CounterTable.close_into.Given as goal

-- the words below i are copied
abbrev pub invariant-loop-i : goal.invariant-loop-i
invariant-loop-i l = (k : ℕ) → k < l.i → slice_index l.words k ≡ slice_index (slots_items l.closed.words) k
