-- One more file is written.
use Rattle.std.proofs.Common.{◌≡◌, ℕ, ◌+◌, ◌<◌, Bool, true, false, Some, List, [], ◌∷◌, ◌++◌, take, length, nat_eq, refl, sym, ap, ap₂, ◌∙◌, arith}
use Rattle.std.specs.List.{slice_get, zip}
use Rattle.std.specs.Cmp.Lexicographic.{pointwise, bytes_decides}
use Rattle.std.proofs.lemmas.List.{take_more}
use Rattle.std.proofs.lemmas.Option.{slice_get_within, get_or_from_slice_get}
use Rattle.std.proofs.lemmas.Slice.Zip.{get_or-zip, length-zip}
use Rattle.pgo_base.specs.Outside.{Files, Puts, SameFiles}
use Rattle.pgo_shell.specs.Shell.{after, with_file}
use Rattle.pgo_shell.specs.Steps.{after_first}

pub after_push : (entries : List (List ℕ × List ℕ)) (e : List ℕ × List ℕ) (files : Files) (other : List ℕ) →
    after (entries ++ e ∷ []) files other ≡ with_file (after entries files) e other
after_push [] e files other = refl
after_push (x ∷ xs) e files other = after_push xs e (with_file files x) other

take_zip_more : (names contents : List (List ℕ)) (k : ℕ) (name bytes : List ℕ) → slice_get names k ≡ Some name → slice_get contents k ≡ Some bytes →
    take (k + 1) (zip names contents) ≡ take k (zip names contents) ++ (name, bytes) ∷ []
take_zip_more names contents k name bytes here there =
    let n : k < length names = slice_get_within names k name here in
    let m : k < length contents = slice_get_within contents k bytes there in
    let within : k < length (zip names contents) = rw length-zip (omega (arith, n, m)) in
    take_more (zip names contents) k (name, bytes) within
    ∙ ap (λ x. take k (zip names contents) ++ x ∷ [])
    (get_or-zip names contents k (name, bytes) n m ∙ ap₂ (λ a b. (a, b)) (get_or_from_slice_get names k name name here) (get_or_from_slice_get contents k bytes bytes there))

put_one : (mid new : Files) (name bytes other : List ℕ) (b : Bool) → pointwise nat_eq other name ≡ b → Puts name bytes mid new →
    new other ≡ with_file mid (name, bytes) other
put_one mid new name bytes other true is puts =
    let same : other ≡ name = (bytes_decides other name).0 is in
    rw (is, same) puts.0
put_one mid new name bytes other false is puts =
    rw is (puts.1 other (λ same. different (sym is ∙ (bytes_decides other name).1 same)))
  where
    different : false ≡ true → ⊥
    different e = cc

-- where the first k files are written and then the next is, the first k + 1 are
pub written_more : (names contents : List (List ℕ)) (k : ℕ) (name bytes : List ℕ) (old mid new : Files) →
    slice_get names k ≡ Some name → slice_get contents k ≡ Some bytes →
    SameFiles (after_first k names contents old) mid → Puts name bytes mid new → SameFiles (after_first (k + 1) names contents old) new
written_more names contents k name bytes old mid new here there front puts other =
    rw (take_zip_more names contents k name bytes here there, after_push)
    (put_one mid new name bytes other (pointwise nat_eq other name) refl puts
    ∙ with_same mid (after_first k names contents old) (name, bytes) other (front other))
  where
    with_same : (a b : Files) (e : List ℕ × List ℕ) (other : List ℕ) → a other ≡ b other → with_file a e other ≡ with_file b e other
    with_same a b e other same = rw same refl

pub all_written : (names contents : List (List ℕ)) (k : ℕ) (old new : Files) → k ≡ length names →
    SameFiles (after_first k names contents old) new → SameFiles (after_first (length names) names contents old) new
all_written names contents k old new all front = rw (sym all) front
