-- What stands after a `merge`, and when it ends well, in its own words.
use Rattle.std.proofs.Common.{◌≡◌, ◌⊎◌, ℕ, List, [], ◌∷◌, ◌++◌, Some, Ok, length, take, refl, sym, ap, ◌∙◌, subst, append-nil}
use Rattle.std.specs.Prelude.{zip}
use Rattle.std.specs.List.{AllZip}
use Rattle.std.proofs.lemmas.List.{length-map}
use Rattle.prof_view.specs.Profile.{ProfileInput}
use Rattle.pgo_base.specs.Outside.{Files, SameFiles}
use Rattle.pgo_shell.specs.Judgement.{Made}
use Rattle.pgo_shell.specs.Promises.{Promises}
use Rattle.pgo_shell.specs.Shell.{AreRead, Delivers, FaultsRose, after, text_of}
use Rattle.pgo_shell.specs.World.{World}
use Rattle.pgo_shell.specs.declared.status.Status.{Status}
use Rattle.pgo_shell.specs.declared.status.Status.TheVariants as status
use Rattle.command_profiles.specs.EachLaws.{profiles_found, profiles_spelled}
use Rattle.command_profiles.specs.Merging.{IsTheMerge}
use Rattle.command_profiles.specs.ProfileText.{IsTheProfile}
use Rattle.command_merge.specs.Merge.{MergeFiles, MergeStands, merge_made, merge_task}

-- as many texts were read as there are names
read_length : (files : Files) (names texts : List (List ℕ)) → AreRead files names texts → length names ≡ length texts
read_length files names texts read = sym (length-map names (text_of files)) ∙ ap length read ∙ length-map texts Some

-- what was delivered is a `merge` in its own words
pub merge_stands : (f : MergeFiles) (old new : World) → old.tells → Delivers (merge_task f) old new (Ok tt) → MergeStands f old new
merge_stands f old new told (worked, delivered) =
    let (ps, all, rest) = worked.judged in
    let (m, sum, makes) = rest in
    record {
      texts = worked.texts;
      texts_are = worked.read;
      inputs = ps;
      spelled = profiles_spelled f.inputs worked.texts ps (read_length old.files f.inputs worked.texts worked.read) all;
      sum = m;
      merges = sum.is;
      written = subst (λ (made : Made). SameFiles (after (take 1 (zip (f.out ∷ []) made.written)) old.files) new.files) makes (delivered.2 told);
      put = λ shown. delivered.1 shown ∙ (ap (λ (made : Made). old.put ++ made.output) makes ∙ append-nil old.put);
    }

-- profiles that can be merged are merged to the end, unless a fault rose or memory ran out
pub merge_finishes : (f : MergeFiles) (old new : World) (s : Status) → Promises (merge_task f) old new s → old.tells →
    (texts : List (List ℕ)) (ps : List ProfileInput) (m : ProfileInput) → AreRead old.files f.inputs texts → AllZip IsTheProfile texts ps → IsTheMerge ps m →
    (FaultsRose (merge_task f) old new → ⊥) → (s ≡ status.Done) ⊎ (s ≡ status.Memory)
merge_finishes f old new s promises told texts ps m read all sum quiet =
    promises.finishes texts (merge_made m) told read (ps, profiles_found f.inputs texts ps (read_length old.files f.inputs texts read) all, (m, sum, refl)) quiet
