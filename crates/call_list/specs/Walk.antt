-- Reading line by line, as the code does it; that it gives what `Answers` says is a lemma.
use Rattle.std.specs.Prelude.{◌≡◌, ℕ, ◌+◌, cond, nat_lt, ⊤, List, [], ◌∷◌, ◌++◌, Option, Some, None, Result, Ok, Err, length}
use Rattle.ir_model.specs.declared.result.Call.{Call}
use Rattle.call_list.specs.declared.calls.Calls.{Calls}
use Rattle.call_list.specs.declared.line.LineError.{LineError}
use Rattle.call_list.specs.declared.line.LineError.TheVariants as fault
use Rattle.call_list.specs.declared.error.CallsError.{CallsError}
use Rattle.call_list.specs.declared.error.CallsError.TheVariants as errors
use Rattle.call_list.specs.Reading.{Meanings, calls_most}

-- the calls that are kept, and one more where there is room for it
abbrev pub keep : List Call → Call → List Call
keep kept call = cond (nat_lt (length kept) calls_most) (kept ++ call ∷ []) kept

abbrev pub at_line : LineError → ℕ → CallsError
at_line fault.BadLine n = errors.BadLine n
at_line fault.NoFunction n = errors.NoFunction n
at_line fault.BadArgs n = errors.BadArgs n
at_line fault.NoMemory n = errors.NoMemory

-- How many calls were found, and the first of them
pub record Found : Type 0 where
  pub count : ℕ
  pub kept : List Call

abbrev pub found_in : Calls → Found
found_in calls = record { count = calls.count; kept = calls.kept.items }

abbrev pub found_none : Found
found_none = record { count = 0; kept = [] }

abbrev pub found_more : Found → Option Call → Found
found_more f None = f
found_more f (Some call) = record { count = f.count + 1; kept = keep f.kept call }

-- from line n on, behind what was found
abbrev pub walk : ℕ → Found → Meanings → Result Found CallsError
walk n f [] = Ok f
walk n f (Ok call ∷ xs) = walk (n + 1) (found_more f call) xs
walk n f (Err e ∷ xs) = Err (at_line e n)

-- What the code answers is this, unless memory ran out.
abbrev pub WalkFails : CallsError → Result Found CallsError → Type 0
WalkFails errors.NoMemory r = ⊤
WalkFails (errors.BadLine n) r = r ≡ Err (errors.BadLine n)
WalkFails (errors.NoFunction n) r = r ≡ Err (errors.NoFunction n)
WalkFails (errors.BadArgs n) r = r ≡ Err (errors.BadArgs n)
WalkFails (errors.TooMany n) r = r ≡ Err (errors.TooMany n)
WalkFails (errors.TextLimit n) r = r ≡ Err (errors.TextLimit n)

abbrev pub Walks : Result Calls CallsError → Result Found CallsError → Type 0
Walks (Ok calls) r = r ≡ Ok (found_in calls)
Walks (Err e) r = WalkFails e r
