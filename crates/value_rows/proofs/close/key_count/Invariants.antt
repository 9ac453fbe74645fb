use Rattle.std.proofs.Common.{◌≢◌, ℕ, ◌+◌, ◌<◌, slice_index}
use Rattle.std.specs.Mem.Slots.{slots_items}
use Rattle.value_rows.proofs.close.key_count.Given as goal

-- the places so far have keys
abbrev pub invariant-loop-place : goal.invariant-loop-place
invariant-loop-place l = (p : ℕ) → p < l.place → slice_index (slots_items l.closed.words) (l.start + p) ≢ 0
