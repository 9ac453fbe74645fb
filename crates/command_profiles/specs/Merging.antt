-- The merge of profiles, or why they have none.
use Rattle.std.specs.Prelude.{◌≡◌, ℕ, List, [], ◌++◌, codes, decimal}
use Rattle.prof_view.specs.Profile.{ProfileInput}
use Rattle.prof_text.specs.declared.error.MergeError.{MergeError}
use Rattle.prof_text.specs.declared.error.MergeError.TheVariants.{CounterMismatch, SiteMismatch, HeaderMismatch, NoMemory}
use Rattle.prof_merge.specs.Inputs.{IsMergeOf, IsMergeRefusal}
use Rattle.pgo_shell.specs.Judgement.{Part}

-- a mismatch of the profiles, and not want of memory
abbrev pub OfProfiles : MergeError → Type 0
OfProfiles (CounterMismatch name hash first other) = Unit {0}
OfProfiles (SiteMismatch name hash first other) = Unit {0}
OfProfiles (HeaderMismatch input first other) = Unit {0}
OfProfiles NoMemory = ⊥

-- the profiles have this merge and no other, and no mismatch
pub record IsTheMerge (inputs : List ProfileInput) (p : ProfileInput) : Type 0 where
  pub is : IsMergeOf inputs p
  pub only : (q : ProfileInput) → IsMergeOf inputs q → q ≡ p
  pub fit : (e : MergeError) → OfProfiles e → IsMergeRefusal inputs e → ⊥

-- the two numbers in which a name and a hash differ
abbrev pub numbers_line : List ℕ → ℕ → ℕ → ℕ → List ℕ → List ℕ
numbers_line name hash first other what =
    codes "merge: " ++ name ++ codes " " ++ decimal hash ++ codes " has " ++ decimal first ++ codes " and " ++ decimal other ++ what

-- what is said of profiles that have no merge
abbrev pub merge_line : MergeError → List ℕ
merge_line (CounterMismatch name hash first other) = numbers_line name hash first other (codes " counters")
merge_line (SiteMismatch name hash first other) = numbers_line name hash first other (codes " sites")
merge_line (HeaderMismatch input first other) = codes "merge: input " ++ decimal input ++ codes " differs in entry_first"
merge_line NoMemory = []

-- the profiles are refused with this line
abbrev pub BadMerge : List ProfileInput → List ℕ → Type 0
BadMerge inputs line = (e : MergeError) × OfProfiles e × IsMergeRefusal inputs e × (line ≡ merge_line e)

-- profiles as their merge
abbrev pub merged : List ProfileInput → Part ProfileInput
merged inputs = record {
  refuses = BadMerge inputs;
  finds = IsTheMerge inputs;
  apart = λ line p refused found. found.fit refused.0 refused.1 refused.2;
  one = λ p q a b. b.only p a.is;
}
