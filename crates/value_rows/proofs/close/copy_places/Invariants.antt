use Rattle.std.proofs.Common.{◌≡◌, ℕ, ◌+◌, ◌<◌, length, slice_index, slice_index_or}
use Rattle.std.specs.Mem.Slots.{slots_items}
use Rattle.value_rows.proofs.close.copy_places.Given as goal

-- the places so far are copied
abbrev pub invariant-loop-place : goal.invariant-loop-place
invariant-loop-place l = record { room : length l.kept.items ≡ l.places; copied : (p : ℕ) → p < l.place → (d : ℕ × ℕ) → slice_index_or l.kept.items p d ≡ (slice_index (slots_items l.closed.words) (l.start + p), slice_index (slots_items l.closed.words) (l.start + (l.places + p))) }
