-- The promises follow from the one end that a command came to.
use Rattle.std.proofs.Common.{◌≡◌, ◌⊎◌, ℕ, List, [], ◌∷◌, map, Option, None, Some, Result, Ok, Err, inl, inr, refl, sym, ap, ap₂, ◌∙◌, subst}
use Rattle.std.specs.Prelude.{Contains}
use Rattle.std.specs.List.{slice_get}
use Rattle.std.proofs.lemmas.Option.{slice_get_within, get_or_from_slice_get}
use Rattle.pgo_shell.specs.Judgement.{Made}
use Rattle.pgo_shell.specs.World.{World}
use Rattle.pgo_shell.specs.Shell.{Task, AreRead, Delivers, Untouched, Ran, Causes, ReadFailed, FaultsRose, RefusedTexts, Worked, status_of}
use Rattle.pgo_shell.specs.Promises.{IsStopped, HaltStands, Promises, StoppedStands, status_for}
use Rattle.pgo_shell.specs.declared.stop.Stop.{Stop}
use Rattle.pgo_shell.specs.declared.stop.Stop.TheVariants as stop
use Rattle.pgo_shell.specs.declared.status.Status.{Status}
use Rattle.pgo_shell.specs.declared.status.Status.TheVariants as status

abbrev End : Type 0
End = Result (Unit {0}) Stop

here_contains : (names : List (List ℕ)) (k : ℕ) (name : List ℕ) → slice_get names k ≡ Some name → Contains names name
here_contains names k name here = (k, slice_get_within names k name here, get_or_from_slice_get names k name name here)

-- there is one list of texts
some_injective : (xs ys : List (List ℕ)) → map Some xs ≡ map Some ys → xs ≡ ys
some_injective [] [] e = refl
some_injective [] (y ∷ ys) e = cc
some_injective (x ∷ xs) [] e = cc
some_injective (x ∷ xs) (y ∷ ys) e =
    let first : x ≡ y = cc in
    let others : map Some xs ≡ map Some ys = cc in
    ap₂ (λ z zs. z ∷ zs) first (some_injective xs ys others)

module _ (task : Task) (old new : World) where
  done_stands : (end : End) → Ran task old new end → status_of end ≡ status.Done → old.tells → Delivers task old new (Ok tt)
  done_stands (Ok tt) ran is told = ran told
  done_stands (Err (stop.Refused line)) ran is told = cc
  done_stands (Err (stop.Halted line)) ran is told = cc
  done_stands (Err (stop.Read index)) ran is told = cc
  done_stands (Err stop.Output) ran is told = cc
  done_stands (Err (stop.Write index)) ran is told = cc
  done_stands (Err stop.NoMemory) ran is told = cc

  abbrev Refused : Type 0
  Refused = (old.tells → (line : List ℕ) × RefusedTexts task old line) × Untouched old new

  refused_stands : (end : End) → Ran task old new end → status_of end ≡ status.Refused → Refused
  refused_stands (Ok tt) ran is = cc
  refused_stands (Err (stop.Refused line)) ran is = ((λ told. (line.items, ran.0 told)), ran.1)
  refused_stands (Err (stop.Halted line)) ran is = cc
  refused_stands (Err (stop.Read index)) ran is = cc
  refused_stands (Err stop.Output) ran is = cc
  refused_stands (Err (stop.Write index)) ran is = cc
  refused_stands (Err stop.NoMemory) ran is = cc

  halt_stands : (end : End) → Ran task old new end → status_of end ≡ status.NotReturned → old.tells → HaltStands task old new
  halt_stands (Ok tt) ran is told = cc
  halt_stands (Err (stop.Refused line)) ran is told = cc
  halt_stands (Err (stop.Halted line)) ran is told = let d = ran told in (d.0, rw d.1.0 refl, d.1.1, d.1.2)
  halt_stands (Err (stop.Read index)) ran is told = cc
  halt_stands (Err stop.Output) ran is told = cc
  halt_stands (Err (stop.Write index)) ran is told = cc
  halt_stands (Err stop.NoMemory) ran is told = cc

  stopped_stands : (end : End) → Ran task old new end → IsStopped (status_of end) → old.tells → StoppedStands task old new
  stopped_stands (Ok tt) ran is told = elim is [ inl e ↦ cc | inr e ↦ cc ]
  stopped_stands (Err (stop.Refused line)) ran is told = elim is [ inl e ↦ cc | inr e ↦ cc ]
  stopped_stands (Err (stop.Halted line)) ran is told = elim is [ inl e ↦ cc | inr e ↦ cc ]
  stopped_stands (Err (stop.Read index)) ran is told = inl ran
  stopped_stands (Err stop.Output) ran is told = let d = ran told in inr (d.0, inl d.1)
  stopped_stands (Err (stop.Write index)) ran is told = let d = ran told in inr (d.0, inr (d.1.1, (index, inr d.1.2)))
  stopped_stands (Err stop.NoMemory) ran is told =
      elim ran [
        | inl same ↦ inl same
        | inr part ↦ let d = part told in inr (d.0, elim d.1 [ inl front ↦ inl front | inr whole ↦ let w = whole.2 told in inr (whole.1, (w.0, inl (λ t. w.1))) ])
      ]

  words_right : (end : End) → status_of end ≡ status.Words → ⊥
  words_right (Ok tt) is = cc
  words_right (Err (stop.Refused line)) is = cc
  words_right (Err (stop.Halted line)) is = cc
  words_right (Err (stop.Read index)) is = cc
  words_right (Err stop.Output) is = cc
  words_right (Err (stop.Write index)) is = cc
  words_right (Err stop.NoMemory) is = cc

  outside_cause : (end : End) → Causes task old new end → status_of end ≡ status.Outside → FaultsRose task old new
  outside_cause (Ok tt) cause is = cc
  outside_cause (Err (stop.Refused line)) cause is = cc
  outside_cause (Err (stop.Halted line)) cause is = cc
  outside_cause (Err (stop.Read index)) cause is = inl (cause.0, here_contains task.reads index cause.0 cause.1, cause.2)
  outside_cause (Err stop.Output) cause is = inr (inr cause.1)
  outside_cause (Err (stop.Write index)) cause is = inr (inl (cause.0, here_contains task.writes index cause.0 cause.1, cause.2))
  outside_cause (Err stop.NoMemory) cause is = cc

module _ (task : Task) (old new : World) (told : old.tells) (texts : List (List ℕ)) (read : AreRead old.files task.reads texts) where
  same_texts : (others : List (List ℕ)) → AreRead old.files task.reads others → others ≡ texts
  same_texts others read_others = some_injective others texts (sym read_others ∙ read)

  -- what was made of the texts that were read was made of these
  found_here : (worked : Worked task old.files) → (task.judges texts).finds worked.made
  found_here worked = subst (λ (t : List (List ℕ)). (task.judges t).finds worked.made) (same_texts worked.texts worked.read) worked.judged

  -- where they are refused, nothing was made of them
  module _ (line : List ℕ) (refuses : (task.judges texts).refuses line) where
    none_made : Worked task old.files → ⊥
    none_made worked = (task.judges texts).apart line worked.made refuses (found_here worked)

    pub refused_comes : (end : End) → Ran task old new end → Causes task old new end → (ReadFailed task old new → ⊥) → (status_of end ≡ status.Refused) ⊎ (status_of end ≡ status.Memory)
    refused_comes (Ok tt) ran cause quiet = absurd (none_made (ran told).0)
    refused_comes (Err (stop.Refused other)) ran cause quiet = inl refl
    refused_comes (Err (stop.Halted other)) ran cause quiet = absurd (none_made (ran told).0)
    refused_comes (Err (stop.Read index)) ran cause quiet = absurd (quiet (cause.0, here_contains task.reads index cause.0 cause.1, cause.2))
    refused_comes (Err stop.Output) ran cause quiet = absurd (none_made (ran told).0)
    refused_comes (Err (stop.Write index)) ran cause quiet = absurd (none_made (ran told).0)
    refused_comes (Err stop.NoMemory) ran cause quiet = inr refl

  -- where something is made of them, the end is that of what is made
  module _ (made : Made) (finds : (task.judges texts).finds made) where
    same_halt : (worked : Worked task old.files) (halt : Option (List ℕ)) → worked.made.halted ≡ halt → made.halted ≡ halt
    same_halt worked halt is = (task.judges texts).one made worked.made finds (found_here worked) ∙ is

    pub finish_comes : (end : End) → Ran task old new end → Causes task old new end → (FaultsRose task old new → ⊥) → (status_of end ≡ status_for made.halted) ⊎ (status_of end ≡ status.Memory)
    finish_comes (Ok tt) ran cause quiet = let d = ran told in inl (rw (same_halt d.0 None d.1.0) refl)
    finish_comes (Err (stop.Refused line)) ran cause quiet =
        let refused = ran.0 told in
        absurd ((task.judges texts).apart line.items made (subst (λ (t : List (List ℕ)). (task.judges t).refuses line.items) (same_texts refused.0 refused.1) refused.2) finds)
    finish_comes (Err (stop.Halted line)) ran cause quiet = let d = ran told in inl (rw (same_halt d.0 (Some line.items) d.1.0) refl)
    finish_comes (Err (stop.Read index)) ran cause quiet = absurd (quiet (inl (cause.0, here_contains task.reads index cause.0 cause.1, cause.2)))
    finish_comes (Err stop.Output) ran cause quiet = absurd (quiet (inr (inr cause.1)))
    finish_comes (Err (stop.Write index)) ran cause quiet = absurd (quiet (inr (inl (cause.0, here_contains task.writes index cause.0 cause.1, cause.2))))
    finish_comes (Err stop.NoMemory) ran cause quiet = inr refl

-- the promises of the status of an end
pub promises : (task : Task) (old new : World) (s : Status) (end : End) → s ≡ status_of end → Ran task old new end → Causes task old new end → Promises task old new s
promises task old new s end is ran causes = record {
  done = λ e. done_stands task old new end ran (sym is ∙ e);
  refused = λ e. (refused_stands task old new end ran (sym is ∙ e)).0;
  untouched = λ e. (refused_stands task old new end ran (sym is ∙ e)).1;
  not_returned = λ e. halt_stands task old new end ran (sym is ∙ e);
  stopped = λ e. stopped_stands task old new end ran (subst (λ (x : Status). IsStopped x) is e);
  words = λ e. words_right task old new end (sym is ∙ e);
  outside = λ e. outside_cause task old new end causes (sym is ∙ e);
  refuses = λ texts line told read refuses quiet. subst (λ (x : Status). (x ≡ status.Refused) ⊎ (x ≡ status.Memory)) (sym is)
      (refused_comes task old new told texts read line refuses end ran causes quiet);
  finishes = λ texts made told read finds quiet. subst (λ (x : Status). (x ≡ status_for made.halted) ⊎ (x ≡ status.Memory)) (sym is)
      (finish_comes task old new told texts read made finds end ran causes quiet);
}
