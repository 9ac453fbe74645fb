-- Profiles that have a merge have no mismatch.
use Rattle.std.proofs.Common.{refl}
use Rattle.std.specs.Prelude.{ℕ, List}
use Rattle.std.proofs.lemmas.List.Sorted.{IsPermutation-refl}
use Rattle.prof_view.specs.Profile.{ProfileInput}
use Rattle.prof_text.specs.Order.{MergedOrNot}
use Rattle.prof_text.specs.declared.error.MergeError.{MergeError}
use Rattle.prof_text.specs.declared.error.MergeError.TheVariants.{CounterMismatch, SiteMismatch, HeaderMismatch, NoMemory}
use Rattle.prof_merge.specs.Inputs.{IsMergeOf, IsMergeRefusal, records_of}
use Rattle.prof_merge.specs.Order.{ModesDiffer}
use Rattle.command_profiles.specs.Merging.{OfProfiles}

pub no_mismatch : MergedOrNot → ModesDiffer → (inputs : List ProfileInput) (p : ProfileInput) → IsMergeOf inputs p → (e : MergeError) → OfProfiles e → IsMergeRefusal inputs e → ⊥
no_mismatch or_not differ inputs p is (CounterMismatch name hash first other) of refused =
    or_not (records_of inputs) (records_of inputs) p.records (CounterMismatch name hash first other) (name, hash) (λ count. refl) is.records refused.records refl
no_mismatch or_not differ inputs p is (SiteMismatch name hash first other) of refused =
    or_not (records_of inputs) (records_of inputs) p.records (SiteMismatch name hash first other) (name, hash) (λ count. refl) is.records refused.records refl
no_mismatch or_not differ inputs p is (HeaderMismatch input first other) of refused =
    differ inputs inputs input first other p.entry_first (IsPermutation-refl inputs) refused is.mode
no_mismatch or_not differ inputs p is NoMemory of refused = of
