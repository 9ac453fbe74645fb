-- What reading the text of a profile answers.
use Rattle.std.specs.Prelude.{ℕ, ◌≤◌, List, Result, IfOk, IfErr, length}
use Rattle.std.specs.Global.{Vec}
use Rattle.std.specs.List.{AllZip}
use Rattle.prof_view.specs.Profile.{ProfileInput}
use Rattle.prof_view.specs.Spelled.{Refuses, Spells, text_most}
use Rattle.prof_view.specs.declared.error.ViewError.{ViewError}

-- the profile that the text spells, or why it is none
pub record IsReading (text : List ℕ) (answer : Result ProfileInput ViewError) : Type 0 where
  pub spelled : IfOk answer (Spells text)
  pub within : IfOk answer (λ _. length text ≤ text_most)
  pub refused : IfErr answer (Refuses text)

-- what reading each of these texts answers, in order
abbrev pub AreReadings : List (Vec ℕ) → List (Result ProfileInput ViewError) → Type 0
AreReadings texts answers = AllZip (λ (text : Vec ℕ) (answer : Result ProfileInput ViewError). IsReading text.items answer) texts answers
