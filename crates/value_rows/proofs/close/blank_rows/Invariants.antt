use Rattle.std.proofs.Common.{◌≡◌, ℕ, ◌-◌, ◌<◌, ◌≤◌, length, slice_index_or}
use Rattle.value_rows.specs.Row.{no_row}
use Rattle.value_rows.proofs.close.blank_rows.Given as goal

-- each row so far has room for its places
abbrev pub invariant-rows : goal.invariant-rows
invariant-rows l = record { short : length l.rows.items ≤ l.sites; room : (k : ℕ) → k < length l.rows.items → length (slice_index_or l.rows.items k no_row).kept ≡ l.places }

abbrev pub decreases-rows : goal.decreases-rows
decreases-rows l = l.sites - length l.rows.items
