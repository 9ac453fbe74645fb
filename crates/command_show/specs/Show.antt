-- What `show IN` makes of a profile.
use Rattle.std.specs.Prelude.{◌≡◌, ℕ, List, [], ◌∷◌, ◌++◌, Some, None}
use Rattle.std.proofs.Common.{ap, sym, ◌∙◌}
use Rattle.prof_view.specs.Profile.{ProfileInput}
use Rattle.prof_merge.specs.Inputs.{IsMergeOf}
use Rattle.prof_merge.specs.Show.{show_text}
use Rattle.pgo_base.specs.Outside.{SameFiles}
use Rattle.pgo_shell.specs.Judgement.{Made, Whole, halt_of, making, then}
use Rattle.pgo_shell.specs.Shell.{Task, text_of}
use Rattle.pgo_shell.specs.World.{World}
use Rattle.command_lines.specs.TextAt.{text_at}
use Rattle.command_profiles.specs.Merging.{merged}
use Rattle.command_profiles.specs.ProfileLaws.{IsProfile}
use Rattle.command_profiles.specs.ProfileText.{profile}

-- the totals of the merged profile
abbrev pub show_made : ProfileInput → Made
show_made p = record { halted = None; output = show_text p; written = [] }

abbrev pub ShowMakes : ProfileInput → Made → Type 0
ShowMakes p made = made ≡ show_made p

pub show_agrees : (p : ProfileInput) (a b : Made) → ShowMakes p a → ShowMakes p b → a.halted ≡ b.halted
show_agrees p a b x y = ap halt_of (x ∙ sym y)

-- a `show` with its word: the profile's file
pub record ShowFiles : Type 0 where
  pub input : List ℕ

-- what a profile comes to: the merge of it alone, and its totals
abbrev pub totals_judgement : ProfileInput → Whole
totals_judgement p = then (merged (p ∷ [])) (λ m. making (ShowMakes m) (show_agrees m))

-- what the text comes to
abbrev pub show_judgement : ShowFiles → List ℕ → Whole
show_judgement f text = then (profile f.input text) totals_judgement

abbrev pub show_task : ShowFiles → Task
show_task f = record { reads = f.input ∷ []; writes = []; judges = λ texts. show_judgement f (text_at texts 0) }

-- What stands after a `show` that ended well: its file held a profile whose records can be merged, and the totals of the
-- merge were put; no file changed
pub record ShowStands (f : ShowFiles) (old new : World) : Type 0 where
  pub text : List ℕ
  pub text_is : text_of old.files f.input ≡ Some text
  pub input : ProfileInput
  pub spelled : IsProfile text input
  pub sum : ProfileInput
  pub merges : IsMergeOf (input ∷ []) sum
  pub put : old.shows → new.put ≡ old.put ++ show_text sum
  pub kept : SameFiles old.files new.files
