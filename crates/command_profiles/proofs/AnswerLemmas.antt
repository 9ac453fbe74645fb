-- What was read of texts, as their profiles.
use Rattle.std.proofs.Common.{◌≡◌, ℕ, suc, ◌<◌, List, [], ◌∷◌, ◌++◌, length, get_or, refl, ap, Result, Ok, Err, arith}
use Rattle.std.specs.List.{AllZip}
use Rattle.std.specs.Global.{Vec}
use Rattle.prof_view.specs.Profile.{ProfileInput}
use Rattle.prof_view.specs.Spelled.{Refuses}
use Rattle.prof_view.specs.declared.error.ViewError.{ViewError}
use Rattle.prof_merge.specs.Reading.{AreReadings, IsReading}
use Rattle.pgo_shell.specs.Product.{RefusedBy}
use Rattle.pgo_shell.specs.declared.command.Refusal.{Refusal}
use Rattle.pgo_shell.specs.declared.command.Refusal.TheVariants as refusal
use Rattle.command_profiles.specs.ProfileText.{profile}
use Rattle.command_profiles.specs.Says.{SaysProfile}

-- what a refusal says of a refused text is the judgement of the text
pub said : (file text : List ℕ) (e : ViewError) (r : Refusal) → SaysProfile file e r → Refuses text e → RefusedBy (profile file text) r
said file text e (refusal.Text line) says refused = (e, says.0, refused, says.1)
said file text e refusal.NoMemory says refused = tt

-- a text and what was read of it
pub record TextAt (texts : List (Vec ℕ)) (k : ℕ) (answer : Result ProfileInput ViewError) : Type 0 where
  pub text : Vec ℕ
  pub is : text ≡ get_or texts k text
  pub within : k < length texts
  pub reading : IsReading text.items answer

pub text_at : (texts : List (Vec ℕ)) (before behind : List (Result ProfileInput ViewError)) (answer : Result ProfileInput ViewError) →
    AreReadings texts (before ++ answer ∷ behind) → TextAt texts (length before) answer
text_at [] [] behind answer all = absurd all
text_at [] (a ∷ before) behind answer all = absurd all
text_at (text ∷ texts) [] behind answer all = record { text = text; is = refl; within = omega arith; reading = all.0 }
text_at (text ∷ texts) (a ∷ before) behind answer all =
    let more : TextAt texts (length before) answer = text_at texts before behind answer all.1 in
    record { text = more.text; is = more.is; within = omega (arith, more.within); reading = more.reading }

pub as_many : (texts : List (Vec ℕ)) (answers : List (Result ProfileInput ViewError)) → AreReadings texts answers → length texts ≡ length answers
as_many [] [] all = refl
as_many [] (a ∷ answers) all = absurd all
as_many (text ∷ texts) [] all = absurd all
as_many (text ∷ texts) (a ∷ answers) all = ap suc (as_many texts answers all.1)
