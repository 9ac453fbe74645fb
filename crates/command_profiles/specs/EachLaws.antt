-- What is found of each text of a list.
use Rattle.std.specs.Prelude.{◌≡◌, ℕ, List, [], ◌∷◌, length}
use Rattle.std.specs.List.{AllZip}
use Rattle.std.proofs.Common.{refl, arith}
use Rattle.prof_view.specs.Profile.{ProfileInput}
use Rattle.command_profiles.specs.Each.{profiles}
use Rattle.command_profiles.specs.ProfileLaws.{IsProfile}
use Rattle.command_profiles.specs.ProfileText.{IsTheProfile}

-- where each text is a profile and no other, the profiles are found
pub profiles_found : (names texts : List (List ℕ)) (ps : List ProfileInput) → length names ≡ length texts → AllZip IsTheProfile texts ps → (profiles names texts).finds ps
profiles_found [] [] [] same all = refl
profiles_found [] [] (p ∷ ps) same all = absurd all
profiles_found [] (text ∷ texts) ps same all = absurd (omega arith)
profiles_found (name ∷ names) [] ps same all = absurd (omega arith)
profiles_found (name ∷ names) (text ∷ texts) [] same all = absurd all
profiles_found (name ∷ names) (text ∷ texts) (p ∷ ps) same all = (p, all.0, (ps, profiles_found names texts ps (omega arith) all.1, refl))

-- what is found of them is spelled by them
pub profiles_spelled : (names texts : List (List ℕ)) (ps : List ProfileInput) → length names ≡ length texts → (profiles names texts).finds ps → AllZip IsProfile texts ps
profiles_spelled [] [] ps same found = rw found tt
profiles_spelled [] (text ∷ texts) ps same found = absurd (omega arith)
profiles_spelled (name ∷ names) [] ps same found = absurd (omega arith)
profiles_spelled (name ∷ names) (text ∷ texts) ps same found =
    let (p, the, rest) = found in
    let (qs, others, is) = rest in
    rw is (the.is, profiles_spelled names texts qs (omega arith) others)
