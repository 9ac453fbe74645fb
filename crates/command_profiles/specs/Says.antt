-- What a refusal of the code says.
use Rattle.std.specs.Prelude.{◌≡◌, ℕ, List, ⊤}
use Rattle.prof_text.specs.declared.error.MergeError.{MergeError}
use Rattle.prof_view.specs.declared.error.ViewError.{ViewError}
use Rattle.pgo_shell.specs.declared.command.Refusal.{Refusal}
use Rattle.pgo_shell.specs.declared.command.Refusal.TheVariants as refusal
use Rattle.command_profiles.specs.Merging.{OfProfiles, merge_line}
use Rattle.command_profiles.specs.ProfileLaws.{OfText}
use Rattle.command_profiles.specs.ProfileText.{profile_line}

-- it says why the text is no profile, unless memory ran out
abbrev pub SaysProfile : List ℕ → ViewError → Refusal → Type 0
SaysProfile file error (refusal.Text line) = OfText error × (line.items ≡ profile_line file error)
SaysProfile file error refusal.NoMemory = ⊤

-- it says why the profiles have no merge, unless memory ran out
abbrev pub SaysMerge : MergeError → Refusal → Type 0
SaysMerge error (refusal.Text line) = OfProfiles error × (line.items ≡ merge_line error)
SaysMerge error refusal.NoMemory = ⊤
