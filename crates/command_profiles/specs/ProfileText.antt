-- The profile that a profile's text is.
use Rattle.std.specs.Prelude.{◌≡◌, ℕ, ◌≤◌, List, [], ◌++◌, length, codes, decimal}
use Rattle.prof_view.specs.Profile.{ProfileInput}
use Rattle.prof_view.specs.Spelled.{Refuses, Spells, text_most}
use Rattle.prof_view.specs.declared.error.ViewError.{ViewError}
use Rattle.prof_view.specs.declared.error.ViewError.TheVariants as errors
use Rattle.pgo_shell.specs.Judgement.{Part}
use Rattle.command_profiles.specs.ProfileLaws.{IsProfile, OfText, profile_apart}

-- the text is this profile and no other
pub record IsTheProfile (text : List ℕ) (p : ProfileInput) : Type 0 where
  pub is : IsProfile text p
  pub only : (q : ProfileInput) → Spells text q → q ≡ p

-- what is said of a profile's text that is refused
abbrev pub profile_line : List ℕ → ViewError → List ℕ
profile_line file (errors.Syntax line) = file ++ codes ": syntax at line " ++ decimal line
profile_line file (errors.TextLimit found) = file ++ codes ": too long"
profile_line file errors.NoMemory = []

-- the text is refused with this line: it is too long, or it spells no profile
abbrev pub BadProfile : List ℕ → List ℕ → List ℕ → Type 0
BadProfile file text line = (e : ViewError) × OfText e × Refuses text e × (line ≡ profile_line file e)

-- the text of a file as a profile
abbrev pub profile : List ℕ → List ℕ → Part ProfileInput
profile file text = record {
  refuses = BadProfile file text;
  finds = IsTheProfile text;
  apart = λ line p refused found. profile_apart text refused.0 p refused.1 refused.2 found.is;
  one = λ p q a b. b.only p a.is.spelled;
}
