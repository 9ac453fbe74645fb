use Rattle.std.proofs.Common.{is_some, true, ◌≡◌, ◌+◌, ◌++◌, ℕ, List, Option, None, length, take, drop, min, slice_index, sym, ap, ◌∙◌, subst, refl, rules}
use Rattle.std.proofs.lemmas.List.{take_at}
use Rattle.prof_text.specs.Merged.{most}
use Rattle.prof_text.specs.Sums.{IsCounterTally}
use Rattle.prof_text.proofs.SumLemmas.{join_counter_tally, none_of, some_is_not_none}
use Rattle.prof_text.proofs.joining.join_counters.Goals as goal

pub returns-then-is_some-clause-joined : goal.returns-then-is_some-clause-joined
returns-then-is_some-clause-joined c rs us x y =
    let len : c.len.result ≡ length c.args.sums.now.items = search rules in
    let some : is_some c.first_other-differs.result ≡ true = sym c.is_some.ensures ∙ c.if-is_some.true in
    join_counter_tally c.args.sums.now.items c.args.more.now c.args.sums.now.items c.args.other c.args.more_other c.first_other-differs.result rs us c.len.result
    len refl c.first_other-differs.ensures.found (λ none. absurd (some_is_not_none c.first_other-differs.result some none)) x y

pub returns-clause-joined : goal.returns-clause-joined
returns-clause-joined c rs us x y =
    let len : c.len.result ≡ length c.args.sums.now.items = search rules in
    let none : c.first_other-differs.result ≡ None = none_of c.first_other-differs.result (sym c.is_some.ensures ∙ c.if-is_some.false) in
    let all_none : (c.args.other ≡ None) × (length c.args.more.now ≡ c.len.result) × (c.args.more_other ≡ None) = c.first_other-differs.ensures.none none in
    let same : length c.add_all.new.sums ≡ length c.args.sums.now.items = search rules in
    let whole : take c.args.sums.now.len (c.add_all.new.sums ++ drop (length c.add_all.new.sums) c.args.sums.now.items) ≡ c.add_all.new.sums = take_at c.add_all.new.sums _ c.args.sums.now.len (search rules) in
    let added : (i : ℕ) → slice_index c.add_all.new.sums i ≡ min (slice_index c.args.sums.now.items i + slice_index c.args.more.now i) most = λ i. c.add_all.ensures i ∙ ap (λ (zs : List ℕ). min (slice_index zs i + slice_index c.args.more.now i) most) c.as_mut_slice.ensures.value in
    subst (λ (zs : List ℕ). IsCounterTally zs None (rs ++ us)) (sym whole)
    (subst (λ (r : Option ℕ). IsCounterTally c.add_all.new.sums r (rs ++ us)) none
    (join_counter_tally c.args.sums.now.items c.args.more.now c.add_all.new.sums c.args.other c.args.more_other c.first_other-differs.result rs us c.len.result
    len same c.first_other-differs.ensures.found (λ _. (all_none.0, all_none.2, added)) x y))
