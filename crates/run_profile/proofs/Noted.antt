-- Rows that are exact for what a seat asked for are so for the marks of all calls, which are few enough to be counted in 64 bits.
use Rattle.std.proofs.Common.{◌≡◌, ℕ, ◌+◌, ◌*◌, ◌<◌, ◌≤◌, ◌^◌, List, [], ◌∷◌, ◌++◌, length, refl, ◌∙◌, ap, subst, arith, length-append}
use Rattle.std.specs.Prelude.{◌==◌, sum_by, filter, count_by, slice_index_or}
use Rattle.std.proofs.lemmas.List.{length-map}
use Rattle.std.proofs.lemmas.List.Sums.{count_by-le-length, length-filter, sum_by-cons}
use Rattle.counted_call.specs.Marks.{ask_of, asked_by}
use Rattle.few_marks.specs.Few.{MarksAreFew}
use Rattle.ir_code.specs.Units.{sites_of_all, tallies_of}
use Rattle.ir_model.specs.declared.probe.Event.{Event}
use Rattle.ir_model.specs.declared.probe.Event.TheVariants as event
use Rattle.ir_model.specs.declared.result.Call.{Call}
use Rattle.ir_tree.specs.declared.types.Module.{Module}
use Rattle.run_workers.specs.Calls.{AskedAll, all_marks, marks_alone}
use Rattle.value_rows.specs.Row.{IsExact, keys_asked, no_row}
use Rattle.value_rows.specs.Seen.{SeatAsks}
use Rattle.value_rows.specs.declared.row.Row.{Row}
use Rattle.run_profile.specs.Ran.{AreNoted}
use Rattle.run_profile.proofs.Exact.{exact_too}

-- ---- how much is asked for

ones : {X : Type 0} (xs : List X) → sum_by (λ x. 1) xs ≡ length xs
ones [] = refl
ones (x ∷ xs) =
    let sum : sum_by (λ y. 1) (x ∷ xs) ≡ 1 + sum_by (λ y. 1) xs = sum_by-cons (λ y. 1) x xs in
    let rest : sum_by (λ y. 1) xs ≡ length xs = ones xs in
    omega (arith, sum, rest)

ask_few : (e : Event) → length (ask_of e) ≤ 1
ask_few (event.Walked f edge) = omega arith
ask_few (event.Target f site callee) = omega arith
ask_few (event.Added counter step) = omega arith
ask_few (event.Noted site callee) = omega arith
ask_few (event.Chose f select value) = omega arith

asked_few : (events : List Event) → length (asked_by events) ≤ length events
asked_few [] = omega arith
asked_few (e ∷ es) =
    let first : length (ask_of e) ≤ 1 = ask_few e in
    let rest : length (asked_by es) ≤ length es = asked_few es in
    let both : length (ask_of e ++ asked_by es) ≡ length (ask_of e) + length (asked_by es) = length-append (ask_of e) (asked_by es) in
    omega (arith, first, rest, both)

marks_few : (m : Module) (steps : ℕ) (calls : List Call) → MarksAreFew → steps ≤ 4398046511105 → length (all_marks m steps calls) ≤ length calls * 4398046511105
marks_few m steps [] law few = omega arith
marks_few m steps (c ∷ cs) law few =
    let first : length (marks_alone m steps c) ≤ steps = law m c steps in
    let rest : length (all_marks m steps cs) ≤ length cs * 4398046511105 = marks_few m steps cs law few in
    let both : length (marks_alone m steps c ++ all_marks m steps cs) ≡ length (marks_alone m steps c) + length (all_marks m steps cs) = length-append (marks_alone m steps c) (all_marks m steps cs) in
    omega (arith, first, rest, both, few)

keys_few : (site : ℕ) (asked : List (ℕ × ℕ)) → length (keys_asked site asked) ≤ length asked
keys_few site asked =
    let same : length (keys_asked site asked) ≡ length (filter (λ e. e.0 == site) asked) = length-map (filter (λ e. e.0 == site) asked) (λ e. e.1) in
    let kept : length (filter (λ e. e.0 == site) asked) ≡ count_by (λ e. e.0 == site) asked = length-filter (λ e. e.0 == site) asked in
    let few : count_by (λ e. e.0 == site) asked ≤ length asked = count_by-le-length (λ e. e.0 == site) asked in
    omega (arith, same, kept, few)

-- ---- the rows

module _ (m : Module) (steps : ℕ) (calls : List Call) (before after : SeatAsks) (asks : AskedAll (all_marks m steps calls) before after) (none : before.asked ≡ []) where
  weighed : (w : ℕ × ℕ → ℕ) → sum_by w after.asked ≡ sum_by w (asked_by (all_marks m steps calls))
  weighed w =
      let all : sum_by w after.asked ≡ sum_by w before.asked + sum_by w (asked_by (all_marks m steps calls)) = asks.weighed w in
      let nothing : sum_by w before.asked ≡ 0 = ap (sum_by w) none in
      omega (arith, all, nothing)

  few_keys : MarksAreFew → steps ≤ 4398046511105 → length calls ≤ 16384 → (site : ℕ) → length (keys_asked site after.asked) < 2 ^ 64
  few_keys law few some site =
      let keys : length (keys_asked site after.asked) ≤ length after.asked = keys_few site after.asked in
      let here : sum_by (λ e. 1) after.asked ≡ length after.asked = ones after.asked in
      let there : sum_by (λ e. 1) (asked_by (all_marks m steps calls)) ≡ length (asked_by (all_marks m steps calls)) = ones (asked_by (all_marks m steps calls)) in
      let same : sum_by (λ e. 1) after.asked ≡ sum_by (λ e. 1) (asked_by (all_marks m steps calls)) = weighed (λ e. 1) in
      let asked : length (asked_by (all_marks m steps calls)) ≤ length (all_marks m steps calls) = asked_few (all_marks m steps calls) in
      let marks : length (all_marks m steps calls) ≤ length calls * 4398046511105 = marks_few m steps calls law few in
      omega (arith, keys, here, there, same, asked, marks, some)

  pub noted : (places room sites : ℕ) (rows : List Row) → MarksAreFew → steps ≤ 4398046511105 → length calls ≤ 16384 → room ≡ places → sites ≡ sites_of_all (tallies_of m) → length rows ≡ sites →
      ((site : ℕ) → site < sites → length (keys_asked site after.asked) < 2 ^ 64 → IsExact room (keys_asked site after.asked) (slice_index_or rows site no_row)) →
      AreNoted m steps calls places rows
  noted places room sites rows law few some its all count exact = record {
    count = count ∙ all;
    exact = λ site within.
        exact_too after.asked (asked_by (all_marks m steps calls)) weighed site places (slice_index_or rows site no_row)
        (subst (λ (n : ℕ). IsExact n (keys_asked site after.asked) (slice_index_or rows site no_row)) its
        (exact site (subst (λ (n : ℕ). site < n) count within) (few_keys law few some site)));
  }
