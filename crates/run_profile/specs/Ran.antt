-- What is counted of the runs of calls.
use Rattle.std.specs.Prelude.{◌≡◌, ℕ, ◌<◌, ◌%◌, ◌^◌, List, length, slice_index, slice_index_or}
use Rattle.counted_call.specs.Marks.{added_by, asked_by}
use Rattle.ir_code.specs.Units.{counters_of_all, sites_of_all, tallies_of}
use Rattle.ir_model.specs.declared.result.Call.{Call}
use Rattle.ir_tree.specs.declared.types.Module.{Module}
use Rattle.run_workers.specs.Calls.{all_marks}
use Rattle.value_rows.specs.Row.{IsExact, keys_asked, no_row}
use Rattle.value_rows.specs.declared.row.Row.{Row}

-- each counter has the sum of what the runs of all calls add to it, modulo 2^64
pub record AreCounted (m : Module) (steps : ℕ) (calls : List Call) (counters : List ℕ) : Type 0 where
  pub count : length counters ≡ counters_of_all (tallies_of m)
  pub sums : (c : ℕ) → c < length counters → slice_index counters c ≡ added_by (all_marks m steps calls) c % 2 ^ 64

-- the row of each site is exact for the targets that the runs of all calls note there: kept keys are counted exactly, and all are
-- kept where they fit the places
pub record AreNoted (m : Module) (steps : ℕ) (calls : List Call) (places : ℕ) (rows : List Row) : Type 0 where
  pub count : length rows ≡ sites_of_all (tallies_of m)
  pub exact : (site : ℕ) → site < length rows → IsExact places (keys_asked site (asked_by (all_marks m steps calls))) (slice_index_or rows site no_row)
