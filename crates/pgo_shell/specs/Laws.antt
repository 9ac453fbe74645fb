-- What the commands' own words rest on: the texts that were read, by their places.
use Rattle.std.proofs.Common.{◌≡◌, ℕ, List, [], map, Option, None, Some, sym, ap, ◌∙◌, inl, inr}
use Rattle.std.specs.List.{slice_get}
use Rattle.std.specs.Option.{option_map, unwrap_or}
use Rattle.std.proofs.lemmas.Option.{slice_get-map}
use Rattle.pgo_base.specs.Outside.{Files}
use Rattle.pgo_shell.specs.Judgement.{Judgement, Part, then}
use Rattle.pgo_shell.specs.Product.{RefusedBy}
use Rattle.pgo_shell.specs.Shell.{AreRead, text_of}
use Rattle.pgo_shell.specs.declared.command.Refusal.{Refusal}
use Rattle.pgo_shell.specs.declared.command.Refusal.TheVariants as refusal

-- the text of a file that was read stands at the file's place
pub read_at : (files : Files) (names texts : List (List ℕ)) (place : ℕ) (name : List ℕ) → AreRead files names texts → slice_get names place ≡ Some name →
    text_of files name ≡ Some (unwrap_or (slice_get texts place) [])
read_at files names texts place name read here =
    at_text (slice_get texts place)
    (sym (ap (option_map (text_of files)) here) ∙ sym (slice_get-map (text_of files) names place) ∙ ap (λ xs. slice_get xs place) read ∙ slice_get-map Some texts place)
  where
    at_text : (o : Option (List ℕ)) → Some (text_of files name) ≡ option_map Some o → text_of files name ≡ Some (unwrap_or o [])
    at_text None e = cc
    at_text (Some text) e = cc

-- a refusal of the first judgement is one of both
pub refused_first : {V W K : Type 0} {key : W → K} (first : Part V) (next : V → Judgement W K key) (r : Refusal) → RefusedBy first r → RefusedBy (then first next) r
refused_first first next (refusal.Text line) refused = inl refused
refused_first first next refusal.NoMemory refused = tt

-- a refusal of the second, of what the first finds, is one of both
pub refused_next : {V W K : Type 0} {key : W → K} (first : Part V) (next : V → Judgement W K key) (x : V) (r : Refusal) → first.finds x → RefusedBy (next x) r →
    RefusedBy (then first next) r
refused_next first next x (refusal.Text line) found refused = inr (x, found, refused)
refused_next first next x refusal.NoMemory found refused = tt
