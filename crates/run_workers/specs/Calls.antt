-- What the calls of a list come to, each by itself, and what they mark in all.
use Rattle.std.specs.Prelude.{◌≡◌, ℕ, ◌+◌, List, [], ◌++◌, map, sum_by, slice_index_or}
use Rattle.std.specs.List.{flat_map}
use Rattle.ir_tree.specs.declared.types.Module.{Module}
use Rattle.ir_model.specs.declared.result.Call.{Call}
use Rattle.ir_model.specs.declared.result.CallResult.{CallResult}
use Rattle.ir_model.specs.declared.probe.Event.{Event}
use Rattle.ir_model.specs.Run.{run_of, result_of}
use Rattle.ir_code.specs.Units.{numbered_marks}
use Rattle.value_rows.specs.Seen.{SeatAsks}
use Rattle.counted_call.specs.Marks.{asked_by}

-- the result of a call that runs alone for at most so many steps, and the marks of its run
abbrev pub result_alone : Module → ℕ → Call → CallResult
result_alone m steps call = result_of (run_of m call steps)

abbrev pub marks_alone : Module → ℕ → Call → List Event
marks_alone m steps call = numbered_marks m (run_of m call steps)

-- the results of all calls, in their order
abbrev pub results_of : Module → ℕ → List Call → List CallResult
results_of m steps calls = map (result_alone m steps) calls

-- the marks of all calls
abbrev pub all_marks : Module → ℕ → List Call → List Event
all_marks m steps calls = flat_map (marks_alone m steps) calls

-- The seat asked for what the events ask for, each (site, key) as often, in some order: so much more is its list,
-- however a (site, key) is weighed.
pub record AskedAll (events : List Event) (before after : SeatAsks) : Type 0 where
  pub table : after.table ≡ before.table
  pub shares : after.shares ≡ before.shares
  pub weighed : (weight : ℕ × ℕ → ℕ) → sum_by weight after.asked ≡ sum_by weight before.asked + sum_by weight (asked_by events)

-- the call of a number
abbrev pub no_call : Call
no_call = record { function = 0; args = [] }

abbrev pub call_at : List Call → ℕ → Call
call_at calls number = slice_index_or calls number no_call
