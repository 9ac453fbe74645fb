-- One judgement after another, of each text in a list.
use Rattle.std.specs.Prelude.{◌≡◌, ℕ, List, [], ◌∷◌, zip}
use Rattle.std.proofs.Common.{sym, ◌∙◌}
use Rattle.prof_view.specs.Profile.{ProfileInput}
use Rattle.pgo_shell.specs.Judgement.{Part, then}
use Rattle.command_profiles.specs.ProfileText.{profile}

-- nothing is refused, and this is found
abbrev pub found : {V : Type 0} → V → Part V
found v = record {
  refuses = λ line. ⊥;
  finds = λ x. x ≡ v;
  apart = λ line x refused found. refused;
  one = λ x y a b. a ∙ sym b;
}

-- what is found of each, in order; the first that is refused is refused for all
abbrev pub each : {A V : Type 0} → (A → Part V) → List A → Part (List V)
each judge [] = found []
each judge (a ∷ others) = then (judge a) (λ v. then (each judge others) (λ vs. found (v ∷ vs)))

-- a file with its text, as a profile
abbrev pub named_profile : List ℕ × List ℕ → Part ProfileInput
named_profile file = profile file.0 file.1

-- the texts of files as profiles, in order
abbrev pub profiles : List (List ℕ) → List (List ℕ) → Part (List ProfileInput)
profiles names texts = each named_profile (zip names texts)
