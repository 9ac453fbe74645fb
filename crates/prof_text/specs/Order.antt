-- What the order of the records can't change.
use Rattle.std.specs.Prelude.{◌≡◌, ℕ, List, Option, Some, None, sum_by}
use Rattle.std.specs.List.Sorted.{IsPermutation}
use Rattle.prof_view.specs.Profile.{ProfileRecord}
use Rattle.prof_text.specs.Merged.{Key, IsMerged}
use Rattle.prof_text.specs.Mismatch.{IsMismatch}
use Rattle.prof_text.specs.declared.error.MergeError.{MergeError}
use Rattle.prof_text.specs.declared.error.MergeError.TheVariants.{CounterMismatch, SiteMismatch, HeaderMismatch, NoMemory}

-- the key that a refusal names
abbrev pub named_key : MergeError → Option Key
named_key (CounterMismatch name hash first other) = Some (name, hash)
named_key (SiteMismatch name hash first other) = Some (name, hash)
named_key (HeaderMismatch input first other) = None
named_key NoMemory = None

-- The same records, each as often, in any order: every count of them comes to the same
abbrev pub SameRecords : List ProfileRecord → List ProfileRecord → Type 0
SameRecords xs ys = (count : ProfileRecord → ℕ) → sum_by count ys ≡ sum_by count xs

abbrev pub Reordered : Type 0
Reordered = (xs ys : List ProfileRecord) → IsPermutation xs ys → SameRecords xs ys

-- Records in any order have one merge
abbrev pub OneMerge : Type 0
OneMerge = (xs ys merged other : List ProfileRecord) → SameRecords xs ys → IsMerged xs merged → IsMerged ys other → merged ≡ other

-- Where they can't be merged, one key is named
abbrev pub OneKey : Type 0
OneKey = (xs ys : List ProfileRecord) (error other : MergeError) (k l : Key) → SameRecords xs ys → IsMismatch xs error → IsMismatch ys other → named_key error ≡ Some k → named_key other ≡ Some l → k ≡ l

-- And records that have a merge in one order have no mismatch in another
abbrev pub MergedOrNot : Type 0
MergedOrNot = (xs ys merged : List ProfileRecord) (error : MergeError) (k : Key) → SameRecords xs ys → IsMerged xs merged → IsMismatch ys error → named_key error ≡ Some k → ⊥
