-- A text that is refused as a profile is none.
use Rattle.std.specs.Prelude.{◌≡◌, ℕ, ◌≤◌, List, length}
use Rattle.std.proofs.Common.{arith}
use Rattle.prof_view.specs.Profile.{ProfileInput}
use Rattle.prof_view.specs.Spelled.{Refuses, Spells, text_most}
use Rattle.prof_view.specs.declared.error.ViewError.{ViewError}
use Rattle.prof_view.specs.declared.error.ViewError.TheVariants as errors

-- the text is not too long and spells the profile
pub record IsProfile (text : List ℕ) (p : ProfileInput) : Type 0 where
  pub fits : length text ≤ text_most
  pub spelled : Spells text p

-- an answer that the text itself gives, and not want of memory
abbrev pub OfText : ViewError → Type 0
OfText (errors.Syntax line) = Unit {0}
OfText (errors.TextLimit found) = Unit {0}
OfText errors.NoMemory = ⊥

pub profile_apart : (text : List ℕ) (e : ViewError) (p : ProfileInput) → OfText e → Refuses text e → IsProfile text p → ⊥
profile_apart text (errors.Syntax line) p of refused is = refused.1 p is.spelled
profile_apart text (errors.TextLimit found) p of refused is = omega (arith, refused.1, is.fits)
profile_apart text errors.NoMemory p of refused is = of
