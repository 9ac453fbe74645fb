-- What `merge OUT IN ..` makes of profiles.
use Rattle.std.specs.Prelude.{◌≡◌, ℕ, List, [], ◌∷◌, Some, None}
use Rattle.std.specs.List.{AllZip}
use Rattle.std.proofs.Common.{ap, sym, ◌∙◌}
use Rattle.prof_view.specs.Profile.{ProfileInput}
use Rattle.prof_text.specs.Text.{profile_text}
use Rattle.prof_merge.specs.Inputs.{IsMergeOf}
use Rattle.pgo_base.specs.Outside.{SameFiles}
use Rattle.pgo_shell.specs.Judgement.{Made, Whole, halt_of, making, then}
use Rattle.pgo_shell.specs.Shell.{AreRead, Task, with_file}
use Rattle.pgo_shell.specs.World.{World}
use Rattle.command_profiles.specs.Each.{profiles}
use Rattle.command_profiles.specs.Merging.{merged}
use Rattle.command_profiles.specs.ProfileLaws.{IsProfile}

-- the text of the merged profile, in a file
abbrev pub merge_made : ProfileInput → Made
merge_made p = record { halted = None; output = []; written = profile_text p ∷ [] }

abbrev pub MergeMakes : ProfileInput → Made → Type 0
MergeMakes p made = made ≡ merge_made p

pub merge_agrees : (p : ProfileInput) (a b : Made) → MergeMakes p a → MergeMakes p b → a.halted ≡ b.halted
merge_agrees p a b x y = ap halt_of (x ∙ sym y)

-- a `merge` with its words: the file that it writes, and the profiles' files. How many workers there are is no part of it:
-- they change nothing
pub record MergeFiles : Type 0 where
  pub out : List ℕ
  pub inputs : List (List ℕ)

-- what profiles come to: their merge, and its text
abbrev pub sum_judgement : List ProfileInput → Whole
sum_judgement ps = then (merged ps) (λ m. making (MergeMakes m) (merge_agrees m))

-- what the texts of the profiles' files come to
abbrev pub merge_judgement : List (List ℕ) → List (List ℕ) → Whole
merge_judgement names texts = then (profiles names texts) sum_judgement

abbrev pub merge_task : MergeFiles → Task
merge_task f = record { reads = f.inputs; writes = f.out ∷ []; judges = merge_judgement f.inputs }

-- What stands after a `merge` that ended well: each file held a profile, the profiles can be merged, and the file `out`
-- holds the text of their merge; no other file changed, and nothing was put. An input may be the file `out` itself
pub record MergeStands (f : MergeFiles) (old new : World) : Type 0 where
  pub texts : List (List ℕ)
  pub texts_are : AreRead old.files f.inputs texts
  pub inputs : List ProfileInput
  pub spelled : AllZip IsProfile texts inputs
  pub sum : ProfileInput
  pub merges : IsMergeOf inputs sum
  pub written : SameFiles (with_file old.files (f.out, profile_text sum)) new.files
  pub put : old.shows → new.put ≡ old.put
