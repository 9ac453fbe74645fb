use Rattle.std.proofs.Common.{◌≡◌, ◌+◌, ℕ, suc, length, vec_len, append-nil, append_assoc, arith, refl, List, [], ◌∷◌, ◌++◌, Result, IfOk, sym, ap, ◌∙◌, subst, rules}
use Rattle.std.specs.List.{AllZip}
use Rattle.std.specs.Vec.Iter.{into_iter_items, into_iter_len}
use Rattle.pgo_base.specs.declared.errors.NoMemory.{NoMemory}
use Rattle.prof_view.specs.Profile.{ProfileInput}
use Rattle.prof_text.specs.Merged.{of_key}
use Rattle.prof_text.specs.Gathered.{Gathers}
use Rattle.prof_text.specs.declared.gathered.Gathered.{Gathered}
use Rattle.prof_merge.specs.Inputs.{records_of}
use Rattle.prof_merge.specs.Parts.{GathersInputs}
use Rattle.prof_merge.proofs.InputLemmas.{all_runs, absorbed, no_runs, LastZip, last_zip}
use Rattle.prof_merge.proofs.merging.joined.Goals as goal

abbrev Fits : List ProfileInput → Result Gathered NoMemory → Type 0
Fits run part = IfOk part (GathersInputs run)

no_items : {A : Type 0} (n : ℕ) (xs : List A) → n ≡ length xs → n ≡ 0 → xs ≡ []
no_items n [] e h = refl
no_items n (x ∷ xs) e h = absurd (omega arith)

pub loop-part-init : goal.loop-part-init
loop-part-init c =
    let len : vec_len c.args.parts ≡ length c.args.parts.items = search rules in (
      λ runs zips. subst (λ (rs : List (List ProfileInput)). GathersInputs (all_runs rs) c.new-whole.result) (sym (no_runs Fits runs zips)) c.new-whole.ensures,
      c.into_iter-part-iterator.ensures.into_iter_gives.1 ∙ (len ∙ sym (ap (λ (xs : List (Result Gathered NoMemory)). length xs) c.into_iter-part-iterator.ensures.into_iter_gives.0)),
      c.into_iter-part-iterator.ensures.into_iter_gives.0,
    )

pub loop-part-preserved : goal.loop-part-preserved
loop-part-preserved c =
    let items : into_iter_items c.loop-part.part-iterator ≡ c.in-Some.part ∷ into_iter_items c.next.new.self = c.in-Some.ensures.steps.0 in
    let len : into_iter_len c.next.new.self + 1 ≡ into_iter_len c.loop-part.part-iterator = c.in-Some.ensures.steps.1 in
    let before : into_iter_len c.loop-part.part-iterator ≡ length (into_iter_items c.loop-part.part-iterator) = c.loop-part.invariant.1 in
    let longer : length (into_iter_items c.loop-part.part-iterator) ≡ suc (length (into_iter_items c.next.new.self)) = ap (λ (xs : List (Result Gathered NoMemory)). length xs) items in (
      λ runs zips.
          let split : LastZip Fits runs c.loop-part.yielded c.in-Some.part = last_zip Fits runs c.loop-part.yielded c.in-Some.part zips in
          let part : GathersInputs split.last c.in_ok-part.field-0 = subst (λ (p : Result Gathered NoMemory). IfOk p (GathersInputs split.last)) c.in_ok-part.was split.related in
          let both : Gathers c.absorb.new.self (λ key. of_key key (records_of (all_runs split.front)) ++ of_key key (records_of split.last)) =
          c.in_ok-absorb.ensures (λ key. of_key key (records_of (all_runs split.front))) (λ key. of_key key (records_of split.last)) (c.loop-part.invariant.0 split.front split.zips) part in
          subst (λ (rs : List (List ProfileInput)). GathersInputs (all_runs rs) c.absorb.new.self) (sym split.whole) (absorbed split.front split.last c.absorb.new.self both),
      omega (arith, before, longer, len),
      append_assoc c.loop-part.yielded (c.in-Some.part ∷ []) (into_iter_items c.next.new.self)
          ∙ (ap (λ (xs : List (Result Gathered NoMemory)). c.loop-part.yielded ++ xs) (sym items) ∙ c.loop-part.invariant.2),
    )

pub returns : goal.returns
returns c runs zips =
    let none : into_iter_items c.loop-part.part-iterator ≡ [] = no_items (into_iter_len c.loop-part.part-iterator) (into_iter_items c.loop-part.part-iterator) c.loop-part.invariant.1 c.in-None.ensures.steps.0 in
    let all : c.loop-part.yielded ≡ c.args.parts.items =
    sym (append-nil c.loop-part.yielded) ∙ (ap (λ (xs : List (Result Gathered NoMemory)). c.loop-part.yielded ++ xs) (sym none) ∙ c.loop-part.invariant.2) in
    c.loop-part.invariant.0 runs (subst (AllZip Fits runs) (sym all) zips)
