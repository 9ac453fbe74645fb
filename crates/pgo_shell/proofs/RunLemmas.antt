-- What stands after each step of a command, put together.
use Rattle.std.proofs.Common.{◌≡◌, ℕ, List, [], ◌∷◌, ◌++◌, take, length, zip, None, Result, Ok, Err, inl, inr, refl, sym, ap, ◌∙◌, subst}
use Rattle.pgo_base.specs.Outside.{Files, SameFiles}
use Rattle.pgo_shell.specs.Judgement.{Made}
use Rattle.pgo_shell.specs.World.{World}
use Rattle.pgo_shell.specs.Shell.{Task, Worked, Untouched, PutWhole, PutFront, NoneWritten, SomeWritten, Written, after, with_file, Delivered, Delivers, Ran}
use Rattle.pgo_shell.specs.Steps.{FilesLeft, StopsWriting}
use Rattle.pgo_shell.specs.declared.stop.Stop.{Stop}
use Rattle.pgo_shell.specs.declared.stop.Stop.TheVariants as stop

after_same : (entries : List (List ℕ × List ℕ)) (a b : Files) → SameFiles a b → SameFiles (after entries a) (after entries b)
after_same [] a b same = same
after_same (e ∷ entries) a b same = after_same entries (with_file a e) (with_file b e) (λ other. one other (same other))
  where
    one : (other : List ℕ) → b other ≡ a other → with_file b e other ≡ with_file a e other
    one other is = rw is refl

-- the delivery, said of the world that was there before the files were read
module _ (made : Made) (names : List (List ℕ)) (old mid new : World) (tells : old.tells → mid.tells) (shows : old.shows → mid.shows) (same : Untouched old mid) where
  whole_from : PutWhole made mid new → PutWhole made old new
  whole_from whole shown = whole (shows shown) ∙ ap (λ x. x ++ made.output) (same.0 shown)

  front_from : PutFront made mid new → PutFront made old new
  front_from front shown =
      let part = front (shows shown) in
      (part.0, part.1 ∙ ap (λ x. x ++ take part.0 made.output) (same.0 shown))

  none_from : NoneWritten mid new → NoneWritten old new
  none_from none told name = none (tells told) name ∙ same.1 told name

  written_from : (k : ℕ) → Written made names k mid new → Written made names k old new
  written_from k written told name =
      written (tells told) name ∙ after_same (take k (zip names made.written)) old.files mid.files (same.1 told) name

  some_from : SomeWritten made names mid new → SomeWritten made names old new
  some_from some told =
      let w = some (tells told) in
      (w.0, λ name. w.1 name ∙ after_same (take w.0 (zip names made.written)) old.files mid.files (same.1 told) name)

  pub delivered_from : (r : Result (Unit {0}) Stop) → Delivered made names mid new r → Delivered made names old new r
  delivered_from (Ok _) d = (d.0, whole_from d.1, written_from (length names) d.2)
  delivered_from (Err (stop.Refused line)) d = d
  delivered_from (Err (stop.Halted line)) d = (d.0, whole_from d.1, none_from d.2)
  delivered_from (Err (stop.Read index)) d = d
  delivered_from (Err stop.Output) d = (front_from d.0, none_from d.1)
  delivered_from (Err (stop.Write index)) d = (
    d.0,
    whole_from d.1,
    λ told. let open_at = d.2 (tells told) in (
      open_at.0,
      open_at.1,
      λ other differs. open_at.2 other differs ∙ after_same (take index (zip names made.written)) old.files mid.files (same.1 told) other,
    ),
  )
  delivered_from (Err stop.NoMemory) d =
      elim d [
        | inl f ↦ inl (front_from f.0, none_from f.1)
        | inr w ↦ inr (w.0, whole_from w.1, some_from w.2)
      ]

-- what was delivered is what the command did
pub ran_delivered : (task : Task) (old new : World) (r : Result (Unit {0}) Stop) (made : Made) → (old.tells → (worked : Worked task old.files) × (worked.made ≡ made)) →
    Delivered made task.writes old new r → Ran task old new r
ran_delivered task old new (Ok tt) made from d =
    λ told. let w = from told in (w.0, subst (λ (m : Made). Delivered m task.writes old new (Ok tt)) (sym w.1) d)
ran_delivered task old new (Err (stop.Refused line)) made from d = absurd d
ran_delivered task old new (Err (stop.Halted line)) made from d =
    λ told. let w = from told in (w.0, subst (λ (m : Made). Delivered m task.writes old new (Err (stop.Halted line))) (sym w.1) d)
ran_delivered task old new (Err (stop.Read index)) made from d = absurd d
ran_delivered task old new (Err stop.Output) made from d =
    λ told. let w = from told in (w.0, subst (λ (m : Made). Delivered m task.writes old new (Err stop.Output)) (sym w.1) d)
ran_delivered task old new (Err (stop.Write index)) made from d =
    λ told. let w = from told in (w.0, subst (λ (m : Made). Delivered m task.writes old new (Err (stop.Write index))) (sym w.1) d)
ran_delivered task old new (Err stop.NoMemory) made from d =
    inr (λ told. let w = from told in (w.0, subst (λ (m : Made). Delivered m task.writes old new (Err stop.NoMemory)) (sym w.1) d))

-- the delivery of what doesn't halt ends as the writes do
pub delivered_files : (made : Made) (names : List (List ℕ)) (old new : World) (r : Result (Unit {0}) Stop) → made.halted ≡ None → PutWhole made old new →
    (old.tells → FilesLeft names made.written old.files new.files r) → StopsWriting names old.failures new.failures r → Delivered made names old new r
delivered_files made names old new (Ok tt) none whole left stops = (none, whole, left)
delivered_files made names old new (Err (stop.Refused line)) none whole left stops = absurd stops
delivered_files made names old new (Err (stop.Halted line)) none whole left stops = absurd stops
delivered_files made names old new (Err (stop.Read index)) none whole left stops = absurd stops
delivered_files made names old new (Err stop.Output) none whole left stops = absurd stops
delivered_files made names old new (Err (stop.Write index)) none whole left stops = (none, whole, left)
delivered_files made names old new (Err stop.NoMemory) none whole left stops = inr (none, whole, left)
