-- What it is to merge profiles.
use Rattle.std.specs.Prelude.{◌≡◌, ◌<◌, ℕ, Bool, not, List, Some, map, slice_get, All}
use Rattle.std.specs.List.{flat_map}
use Rattle.prof_view.specs.Profile.{ProfileRecord, ProfileInput}
use Rattle.prof_text.specs.Merged.{IsMerged}
use Rattle.prof_text.specs.Mismatch.{IsMismatch}
use Rattle.prof_text.specs.declared.error.MergeError.{MergeError}
use Rattle.prof_text.specs.declared.error.MergeError.TheVariants.{CounterMismatch, SiteMismatch, HeaderMismatch, NoMemory}

-- the records of all inputs, in order
abbrev pub records_of : List ProfileInput → List ProfileRecord
records_of inputs = flat_map (λ (i : ProfileInput). i.records) inputs

abbrev pub modes_of : List ProfileInput → List Bool
modes_of inputs = map (λ (i : ProfileInput). i.entry_first) inputs

-- all inputs have this mode
abbrev pub AllHaveMode : Bool → List ProfileInput → Type 0
AllHaveMode mode inputs = All (λ (i : ProfileInput). i.entry_first ≡ mode) inputs

-- The merge of profiles has their mode, and the merge of their records
pub record IsMergeOf (inputs : List ProfileInput) (merged : ProfileInput) : Type 0 where
  pub mode : AllHaveMode merged.entry_first inputs
  pub records : IsMerged (records_of inputs) merged.records

-- The first input whose mode is not that of input 0
pub record IsHeaderMismatch (inputs : List ProfileInput) (input : ℕ) (first other : Bool) : Type 0 where
  pub first_is : slice_get (modes_of inputs) 0 ≡ Some first
  pub other_is : slice_get (modes_of inputs) input ≡ Some other
  pub differ : other ≡ not first
  pub earlier : (k : ℕ) → k < input → slice_get (modes_of inputs) k ≡ Some first

-- All inputs have one mode, and their records can't be merged
pub record IsRecordMismatch (inputs : List ProfileInput) (error : MergeError) : Type 0 where
  pub mode : (m : Bool) × AllHaveMode m inputs
  pub records : IsMismatch (records_of inputs) error

-- Why profiles are not merged; want of memory may come at any time
abbrev pub IsMergeRefusal : List ProfileInput → MergeError → Type 0
IsMergeRefusal inputs (CounterMismatch name hash first other) = IsRecordMismatch inputs (CounterMismatch name hash first other)
IsMergeRefusal inputs (SiteMismatch name hash first other) = IsRecordMismatch inputs (SiteMismatch name hash first other)
IsMergeRefusal inputs (HeaderMismatch input first other) = IsHeaderMismatch inputs input first other
IsMergeRefusal inputs NoMemory = Unit {0}
