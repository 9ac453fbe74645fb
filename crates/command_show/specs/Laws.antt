-- What stands after a `show`, and when it ends well, in its own words.
use Rattle.std.proofs.Common.{◌≡◌, ◌⊎◌, ℕ, List, [], ◌∷◌, ◌++◌, Some, Ok, refl, ap, ◌∙◌}
use Rattle.prof_view.specs.Profile.{ProfileInput}
use Rattle.pgo_shell.specs.Judgement.{Made}
use Rattle.pgo_shell.specs.Laws.{read_at}
use Rattle.pgo_shell.specs.Promises.{Promises}
use Rattle.pgo_shell.specs.Shell.{Delivers, FaultsRose, text_of}
use Rattle.pgo_shell.specs.World.{World}
use Rattle.pgo_shell.specs.declared.status.Status.{Status}
use Rattle.pgo_shell.specs.declared.status.Status.TheVariants as status
use Rattle.command_lines.specs.TextAt.{text_at}
use Rattle.command_profiles.specs.Merging.{IsTheMerge}
use Rattle.command_profiles.specs.ProfileText.{IsTheProfile}
use Rattle.command_show.specs.Show.{ShowFiles, ShowStands, show_made, show_task}

-- what was delivered is a `show` in its own words
pub show_stands : (f : ShowFiles) (old new : World) → old.tells → Delivers (show_task f) old new (Ok tt) → ShowStands f old new
show_stands f old new told (worked, delivered) =
    let (p, the, rest) = worked.judged in
    let (m, sum, makes) = rest in
    record {
      text = text_at worked.texts 0;
      text_is = read_at old.files (f.input ∷ []) worked.texts 0 f.input worked.read refl;
      input = p;
      spelled = the.is;
      sum = m;
      merges = sum.is;
      put = λ shown. delivered.1 shown ∙ ap (λ (made : Made). old.put ++ made.output) makes;
      kept = delivered.2 told;
    }

-- a profile whose records can be merged is shown to its end, unless a fault rose or memory ran out
pub show_finishes : (f : ShowFiles) (old new : World) (s : Status) → Promises (show_task f) old new s → old.tells →
    (text : List ℕ) (p m : ProfileInput) → text_of old.files f.input ≡ Some text → IsTheProfile text p → IsTheMerge (p ∷ []) m →
    (FaultsRose (show_task f) old new → ⊥) → (s ≡ status.Done) ⊎ (s ≡ status.Memory)
show_finishes f old new s promises told text p m text_is the sum quiet =
    promises.finishes (text ∷ []) (show_made m) told (ap (λ a. a ∷ []) text_is) (p, the, (m, sum, refl)) quiet
