use Rattle.std.proofs.Common.{◌≡◌, ℕ, ◌+◌, ◌*◌, ◌<◌, ◌≤◌, length, slice_index, slice_index_or}
use Rattle.std.specs.Mem.Slots.{slots_items}
use Rattle.value_rows.specs.Row.{no_row, Reads}
use Rattle.value_rows.proofs.close.fill_rows.Given as goal

-- the rows so far are filled, and the others have room
abbrev pub invariant-loop-site : goal.invariant-loop-site
invariant-loop-site l = record {
  kept : (k : ℕ) → k < l.site → Reads (slots_items l.closed.words) (k * (2 * l.places + 1)) l.places (slice_index_or l.rows k no_row).kept;
  dropped : (k : ℕ) → k < l.site → (slice_index_or l.rows k no_row).dropped ≡ slice_index (slots_items l.closed.words) (k * (2 * l.places + 1) + 2 * l.places);
  room : (k : ℕ) → l.site ≤ k → k < length l.rows → length (slice_index_or l.rows k no_row).kept ≡ l.places;
}
