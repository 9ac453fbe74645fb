-- What holds of the profile text as a whole.
use Rattle.std.specs.Prelude.{◌≡◌, ◌↔◌, ℕ, List, [], Some}
use Rattle.prof_view.specs.Profile.{ProfileInput}
use Rattle.prof_view.specs.Lines.{content}
use Rattle.prof_view.specs.Grammar.{profile_ahead}
use Rattle.prof_view.specs.Spelled.{Spells}

-- A text spells one profile at most.
abbrev pub OneProfile : Type 0
OneProfile = (text : List ℕ) (p q : ProfileInput) → Spells text p → Spells text q → p ≡ q

-- Looking ahead at the next line reads exactly what is spelled.
abbrev pub LookingAhead : Type 0
LookingAhead = (text : List ℕ) (p : ProfileInput) → (profile_ahead.read (content text) ≡ Some (p, [])) ↔ Spells text p
