-- One more file is read, and all are.
use Rattle.std.proofs.Common.{◌≡◌, ℕ, ◌+◌, ◌<◌, ◌≤◌, None, Some, List, [], ◌∷◌, ◌++◌, map, take, length, refl, sym, ap, ap₂, ◌∙◌, inl, inr, Vec, arith}
use Rattle.std.specs.List.{slice_get}
use Rattle.std.specs.declared.alloc.Global.{Global}
use Rattle.std.proofs.lemmas.List.{map-append, take_more}
use Rattle.std.proofs.Math.Seq.{take-length}
use Rattle.std.proofs.lemmas.Option.{slice_get_within, get_or_from_slice_get, slice_get_cases}
use Rattle.pgo_base.specs.Outside.{Files, SameFiles}
use Rattle.pgo_shell.specs.Product.{bytes_of_all}
use Rattle.pgo_shell.specs.Shell.{AreRead, text_of}

pub same_text_of : (old new : Files) (name : List ℕ) → SameFiles old new → text_of new name ≡ text_of old name
unfolding text_of
same_text_of old new name same = rw (same name) refl

-- one more file is read: where the files are as they were at first, its text joins those that are read
pub one_more_read : (first files : Files) (names : List (List ℕ)) (k : ℕ) (name : List ℕ) (texts new : List (Vec ℕ Global)) (text : Vec ℕ Global) →
    slice_get names k ≡ Some name → SameFiles first files → map (text_of first) (take k names) ≡ map Some (bytes_of_all texts) →
    text_of files name ≡ Some text.items → new ≡ texts ++ text ∷ [] →
    map (text_of first) (take (k + 1) names) ≡ map Some (bytes_of_all new)
one_more_read first files names k name texts new text here same front is grown =
    let within : k < length names = slice_get_within names k name here in
    let longer : take (k + 1) names ≡ take k names ++ name ∷ [] = take_more names k [] within ∙ ap (λ x. take k names ++ x ∷ []) (get_or_from_slice_get names k name [] here) in
    let text_is : text_of first name ≡ Some text.items = sym (same_text_of first files name same) ∙ is in
    rw (longer, grown, map-append, map-append, map-append) (ap₂ (λ xs x. xs ++ x ∷ []) front text_is)

pub at_the_end : (names : List (List ℕ)) (k : ℕ) → slice_get names k ≡ None → k ≤ length names → k ≡ length names
at_the_end names k is within =
    elim (slice_get_cases names k).1 [ inl found ↦ absurd (some_none _ (sym found.2 ∙ is)) | inr past ↦ omega arith ]
  where
    some_none : (x : List ℕ) → Some x ≡ None → ⊥
    some_none x e = cc

pub all_read : (files : Files) (names : List (List ℕ)) (k : ℕ) (texts : List (List ℕ)) → k ≡ length names →
    map (text_of files) (take k names) ≡ map Some texts → AreRead files names texts
all_read files names k texts all front = rw (all, take-length) at front
