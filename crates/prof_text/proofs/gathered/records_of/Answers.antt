use Rattle.std.proofs.Common.{◌≡◌, ℕ, List, [], ◌∷◌, ◌++◌, append-nil, append_assoc, sym, ap, ◌∙◌, subst, rules}
use Rattle.std.specs.List.Sorted.{IsStrictlySortedBy}
use Rattle.std.specs.Map.{lookup, keys_of}
use Rattle.std.proofs.lemmas.Map.Iter.{rest_more, rest_all}
use Rattle.prof_text.specs.Merged.{Key, of_key}
use Rattle.prof_text.specs.Record.{values_of, value_of}
use Rattle.prof_text.specs.declared.record.ProfRecord.{ProfRecord}
use Rattle.prof_text.specs.Tally.{Tallies}
use Rattle.prof_text.specs.Gathered.{plain_key, borrowed_key_cmp, is_key, IsTallyAt}
use Rattle.prof_text.proofs.GatherLemmas.{sorted_rise}
use Rattle.std.specs.List.{AllZip}
use Rattle.std.proofs.lemmas.List.{map-append}
use Rattle.prof_text.specs.Merged.{IsSumOf, key_of}
use Rattle.prof_text.proofs.WalkLemmas.{Entry, IsEntrySum, apart_before, tally_here, zip_push, entries_are_merged, lesser_fit, mismatch_from}
use Rattle.prof_text.proofs.gathered.records_of.Goals as goal

same_pair : (a b : List ℕ) (n m : ℕ) → a ≡ b → n ≡ m → ◌≡◌ {A = Key} (a, n) (b, m)
same_pair a b n m e h = cc

pub loop-name-init : goal.loop-name-init
loop-name-init c =
    let none : c.new-records.result.items ≡ [] = search rules in
    ([], sym c.into_iter-name-iterator.ensures.into_iter_gives.0, λ recs gathers. subst (λ (rs : List ProfRecord). AllZip (IsEntrySum recs) [] (values_of rs)) (sym none) tt)

pub loop-name-preserved : goal.loop-name-preserved
loop-name-preserved c =
    let (done, so_far, made) = c.loop-name.invariant in
    let e : Entry = ((c.in-Some.name, c.in-Some.hash), c.in-Some.tally) in
    let whole : c.args.tallies.entries ≡ done ++ e ∷ c.next.new.self =
    so_far ∙ ap (λ (zs : List Entry). done ++ zs) (rest_more (λ (x : Entry). x) c.loop-name.name-iterator c.next.new.self c.next.result e c.in-Some.is c.next.ensures.steps) in (
      done ++ e ∷ [],
      whole ∙ sym (append_assoc done (e ∷ []) c.next.new.self),
      λ recs gathers.
          let sorted : IsStrictlySortedBy borrowed_key_cmp (keys_of (done ++ e ∷ c.next.new.self)) =
          subst (λ (es : List Entry). IsStrictlySortedBy borrowed_key_cmp (keys_of es)) whole (sorted_rise _ c.into_iter-name-iterator.ensures.into_iter_gives.4 c.requires) in
          let at : (key : Key) → IsTallyAt (lookup (is_key key) (done ++ e ∷ c.next.new.self)) (of_key key recs) =
          subst (λ (es : List Entry). (key : Key) → IsTallyAt (lookup (is_key key) es) (of_key key recs)) whole gathers in
          let tally : Tallies e.1 (of_key (plain_key e.0) recs) = tally_here (λ key. of_key key recs) done c.next.new.self e (apart_before done c.next.new.self e sorted) at in
          let sum : IsSumOf (of_key (plain_key e.0) recs) (value_of c.in-Ok.record) = c.in-Ok.ensures.sum (of_key (plain_key e.0) recs) tally in
          let name : c.in-Ok.record.name ≡ e.0.0.now = c.in-Ok.ensures.key.0 in
          let hash : c.in-Ok.record.hash ≡ e.0.1 = c.in-Ok.ensures.key.1 in
          let key : key_of (value_of c.in-Ok.record) ≡ plain_key e.0 = same_pair c.in-Ok.record.name e.0.0.now c.in-Ok.record.hash e.0.1 name hash in
          let pushed : c.push.new.self.items ≡ c.loop-name.records.items ++ c.in-Ok.record ∷ [] = search rules in
          let values : values_of c.push.new.self.items ≡ values_of c.loop-name.records.items ++ value_of c.in-Ok.record ∷ [] =
          ap values_of pushed ∙ map-append value_of c.loop-name.records.items (c.in-Ok.record ∷ []) in
          subst (AllZip (IsEntrySum recs) (done ++ e ∷ [])) (sym values)
          (zip_push (IsEntrySum recs) done (values_of c.loop-name.records.items) e (value_of c.in-Ok.record) (made recs gathers) (key, sum)),
    )

pub returns-clause-merged : goal.returns-clause-merged
returns-clause-merged c recs gathers =
    let (done, so_far, made) = c.loop-name.invariant in
    let whole : c.args.tallies.entries ≡ done =
    so_far ∙ (ap (λ (zs : List Entry). done ++ zs) (rest_all (λ (x : Entry). x) c.loop-name.name-iterator c.next.new.self c.next.result c.in-None.is c.next.ensures.steps) ∙ append-nil done) in
    entries_are_merged recs done (values_of c.loop-name.records.items)
    (subst (λ (es : List Entry). IsStrictlySortedBy borrowed_key_cmp (keys_of es)) whole (sorted_rise _ c.into_iter-name-iterator.ensures.into_iter_gives.4 c.requires))
    (subst (λ (es : List Entry). (key : Key) → IsTallyAt (lookup (is_key key) es) (of_key key recs)) whole gathers)
    (made recs gathers)

pub returns-in-Err-clause-refused : goal.returns-in-Err-clause-refused
returns-in-Err-clause-refused c recs gathers =
    let (done, so_far, made) = c.loop-name.invariant in
    let e : Entry = ((c.in-Some.name, c.in-Some.hash), c.in-Some.tally) in
    let whole : c.args.tallies.entries ≡ done ++ e ∷ c.next.new.self =
    so_far ∙ ap (λ (zs : List Entry). done ++ zs) (rest_more (λ (x : Entry). x) c.loop-name.name-iterator c.next.new.self c.next.result e c.in-Some.is c.next.ensures.steps) in
    let sorted : IsStrictlySortedBy borrowed_key_cmp (keys_of (done ++ e ∷ c.next.new.self)) =
    subst (λ (es : List Entry). IsStrictlySortedBy borrowed_key_cmp (keys_of es)) whole (sorted_rise _ c.into_iter-name-iterator.ensures.into_iter_gives.4 c.requires) in
    let at : (key : Key) → IsTallyAt (lookup (is_key key) (done ++ e ∷ c.next.new.self)) (of_key key recs) =
    subst (λ (es : List Entry). (key : Key) → IsTallyAt (lookup (is_key key) es) (of_key key recs)) whole gathers in
    let tally : Tallies e.1 (of_key (plain_key e.0) recs) = tally_here (λ key. of_key key recs) done c.next.new.self e (apart_before done c.next.new.self e sorted) at in
    mismatch_from recs (plain_key e.0) c.in-Err.error (c.in-Err.ensures.misfit (of_key (plain_key e.0) recs) tally)
    (lesser_fit recs done c.next.new.self e (values_of c.loop-name.records.items) sorted at (made recs gathers))
