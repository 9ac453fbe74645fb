-- What the order of the inputs can't change.
use Rattle.std.specs.Prelude.{◌≡◌, ◌<◌, ℕ, Bool, List, Some, length}
use Rattle.std.specs.List.Sorted.{IsPermutation}
use Rattle.prof_view.specs.Profile.{ProfileInput}
use Rattle.prof_text.specs.Merged.{Key}
use Rattle.prof_text.specs.Order.{named_key}
use Rattle.prof_text.specs.declared.error.MergeError.{MergeError}
use Rattle.prof_merge.specs.Inputs.{AllHaveMode, IsMergeOf, IsHeaderMismatch, IsRecordMismatch}

-- Inputs in any order have one merge
abbrev pub OneMergeOfInputs : Type 0
OneMergeOfInputs = (xs ys : List ProfileInput) (p q : ProfileInput) → IsPermutation xs ys → 0 < length ys → IsMergeOf xs p → IsMergeOf ys q → p ≡ q

-- Where their records can't be merged, one key is named
abbrev pub OneKeyOfInputs : Type 0
OneKeyOfInputs = (xs ys : List ProfileInput) (error other : MergeError) (k l : Key) → IsPermutation xs ys → IsRecordMismatch xs error → IsRecordMismatch ys other → named_key error ≡ Some k → named_key other ≡ Some l → k ≡ l

-- And where two modes differ, they differ in any order
abbrev pub ModesDiffer : Type 0
ModesDiffer = (xs ys : List ProfileInput) (input : ℕ) (first other mode : Bool) → IsPermutation ys xs → IsHeaderMismatch xs input first other → AllHaveMode mode ys → ⊥
