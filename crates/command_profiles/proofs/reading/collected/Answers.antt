use Rattle.std.proofs.Common.{◌≡◌, ◌+◌, ◌<◌, ◌≤◌, ℕ, suc, List, [], ◌∷◌, ◌++◌, Result, length, get_or, map, drop, refl, sym, ap, ◌∙◌, subst, rules, arith, length-append, append-nil, append_assoc, vec_len}
use Rattle.std.specs.Global.{Vec}
use Rattle.std.specs.String.{string_bytes}
use Rattle.std.specs.Vec.Iter.{into_iter_items, into_iter_len}
use Rattle.pgo_shell.specs.Product.{RefusedBy, bytes_of_all}
use Rattle.prof_view.specs.Profile.{ProfileInput}
use Rattle.prof_view.specs.declared.error.ViewError.{ViewError}
use Rattle.prof_merge.specs.Reading.{AreReadings}
use Rattle.command_profiles.specs.Each.{named_profile, profiles}
use Rattle.command_profiles.specs.ProfileText.{IsTheProfile, profile}
use Rattle.command_profiles.proofs.AnswerLemmas.{TextAt, as_many, text_at}
use Rattle.command_profiles.proofs.EachLemmas.{FindsBehind, RefusesBehind, finds_all, finds_turn, refuses_here, refuses_turn}
use Rattle.command_profiles.proofs.FileLemmas.{file_at, files, no_file}
use Rattle.command_profiles.proofs.reading.collected.Goals as goal

no_items : {A : Type 0} (n : ℕ) (xs : List A) → n ≡ length xs → n ≡ 0 → xs ≡ []
no_items n [] e h = refl
no_items n (x ∷ xs) e h = absurd (omega arith)

pub returns-in_err-judged-clause-refuses : goal.returns-in_err-judged-clause-refuses
returns-in_err-judged-clause-refuses c texts readings =
    let names = c.args.names.now in
    let yielded = c.loop-answer.yielded in
    let i : ℕ = length yielded in
    let answer = c.in-Some.answer in
    let rest = into_iter_items c.next.new.self in
    let whole : yielded ++ answer ∷ rest ≡ c.args.answers.items = ap (λ (xs : List (Result ProfileInput ViewError)). yielded ++ xs) (sym c.in-Some.ensures.steps.0) ∙ c.loop-answer.invariant.whole in
    let at : TextAt texts i answer = text_at texts yielded rest answer (subst (λ (xs : List (Result ProfileInput ViewError)). AreReadings texts xs) (sym whole) readings) in
    let len : vec_len c.args.answers ≡ length c.args.answers.items = search rules in
    let same : length texts ≡ length names = as_many texts c.args.answers.items readings ∙ (sym len ∙ c.requires) in
    let name = c.index-names-place.result in
    let place : c.len-place.result ≡ i = c.len-place.ensures ∙ c.loop-answer.invariant.count in
    let name_is : name ≡ get_or names i name = subst (λ (n : ℕ). name ≡ get_or names n name) place c.index-names-place.is in
    let within : i < length texts = at.within in
    let low : i < length names = omega (arith, within, same) in
    let e = c.in_err-judged.field-0.0 in
    let refused : RefusedBy (profile (string_bytes name) at.text.items) e =
    subst (λ (file : List ℕ). RefusedBy (profile file at.text.items) e) c.deref.ensures (c.in_err-judged.ensures.refuses at.text.items at.reading) in
    let all : RefusedBy (profiles (map string_bytes names) (bytes_of_all texts)) e =
    refuses_here named_profile (files names texts same) i (string_bytes name, at.text.items) e
    (file_at names texts same i name at.text low name_is at.is) (c.loop-answer.invariant.refuses texts readings) refused in
    search rules

pub loop-answer-preserved : goal.loop-answer-preserved
loop-answer-preserved c =
    let names = c.args.names.now in
    let yielded = c.loop-answer.yielded in
    let i : ℕ = length yielded in
    let answer = c.in-Some.answer in
    let rest = into_iter_items c.next.new.self in
    let items : into_iter_items c.loop-answer.answer-iterator ≡ answer ∷ rest = c.in-Some.ensures.steps.0 in
    let len_now : into_iter_len c.next.new.self + 1 ≡ into_iter_len c.loop-answer.answer-iterator = c.in-Some.ensures.steps.1 in
    let before : into_iter_len c.loop-answer.answer-iterator ≡ length (into_iter_items c.loop-answer.answer-iterator) = c.loop-answer.invariant.len in
    let longer : length (into_iter_items c.loop-answer.answer-iterator) ≡ suc (length rest) = ap (λ (xs : List (Result ProfileInput ViewError)). length xs) items in
    let whole : yielded ++ answer ∷ rest ≡ c.args.answers.items = ap (λ (xs : List (Result ProfileInput ViewError)). yielded ++ xs) (sym items) ∙ c.loop-answer.invariant.whole in
    let len : vec_len c.args.answers ≡ length c.args.answers.items = search rules in
    let name = c.index-names-place.result in
    let place : c.len-place.result ≡ i = c.len-place.ensures ∙ c.loop-answer.invariant.count in
    let name_is : name ≡ get_or names i name = subst (λ (n : ℕ). name ≡ get_or names n name) place c.index-names-place.is in
    let view : ProfileInput = c.in_ok-judged.field-0 in
    let more : length (yielded ++ answer ∷ []) ≡ i + 1 = length-append yielded (answer ∷ []) in
    let counted : length c.loop-answer.inputs ≡ i = c.loop-answer.invariant.count in
    let pushed : length c.add.new.self ≡ length c.loop-answer.inputs + 1 = ap (λ (ps : List ProfileInput). length ps) c.in_ok-add.ensures.ok ∙ length-append c.loop-answer.inputs (view ∷ []) in
    let the_text : (texts : List (Vec ℕ)) → AreReadings texts c.args.answers.items → TextAt texts i answer =
    λ texts readings. text_at texts yielded rest answer (subst (λ (xs : List (Result ProfileInput ViewError)). AreReadings texts xs) (sym whole) readings) in
    let as_named : (texts : List (Vec ℕ)) → AreReadings texts c.args.answers.items → length texts ≡ length names =
    λ texts readings. as_many texts c.args.answers.items readings ∙ (sym len ∙ c.requires) in
    let the_file : (texts : List (Vec ℕ)) (readings : AreReadings texts c.args.answers.items) →
    drop i (files names texts (as_named texts readings)) ≡ (string_bytes name, (the_text texts readings).text.items) ∷ drop (i + 1) (files names texts (as_named texts readings)) =
    λ texts readings.
    let at : TextAt texts i answer = the_text texts readings in
    let within : i < length texts = at.within in
    let same : length texts ≡ length names = as_named texts readings in
    file_at names texts (as_named texts readings) i name at.text (omega (arith, within, same)) name_is at.is in
    let found : (texts : List (Vec ℕ)) (readings : AreReadings texts c.args.answers.items) → IsTheProfile (the_text texts readings).text.items view =
    λ texts readings. c.in_ok-judged.ensures.found (the_text texts readings).text.items (the_text texts readings).reading in
    record {
      count = omega (arith, pushed, counted, more);
      len = omega (arith, before, longer, len_now);
      whole = append_assoc yielded (answer ∷ []) rest ∙ whole;
      finds = λ texts readings.
          subst (λ (n : ℕ). FindsBehind named_profile (files names texts (as_named texts readings)) n c.add.new.self) (sym more)
          (finds_turn named_profile (files names texts (as_named texts readings)) i (string_bytes name, (the_text texts readings).text.items) view c.loop-answer.inputs c.add.new.self
          (the_file texts readings) (found texts readings) c.in_ok-add.ensures.ok (c.loop-answer.invariant.finds texts readings));
      refuses = λ texts readings.
          subst (λ (n : ℕ). RefusesBehind named_profile (files names texts (as_named texts readings)) n) (sym more)
          (refuses_turn named_profile (files names texts (as_named texts readings)) i (string_bytes name, (the_text texts readings).text.items) view
          (the_file texts readings) (found texts readings) (c.loop-answer.invariant.refuses texts readings));
    }

pub returns-clause-found : goal.returns-clause-found
returns-clause-found c texts readings =
    let names = c.args.names.now in
    let none : into_iter_items c.loop-answer.answer-iterator ≡ [] = no_items (into_iter_len c.loop-answer.answer-iterator) (into_iter_items c.loop-answer.answer-iterator) c.loop-answer.invariant.len c.in-None.ensures.steps.0 in
    let all : c.loop-answer.yielded ≡ c.args.answers.items =
    sym (append-nil c.loop-answer.yielded) ∙ (ap (λ (xs : List (Result ProfileInput ViewError)). c.loop-answer.yielded ++ xs) (sym none) ∙ c.loop-answer.invariant.whole) in
    let len : vec_len c.args.answers ≡ length c.args.answers.items = search rules in
    let same : length texts ≡ length names = as_many texts c.args.answers.items readings ∙ (sym len ∙ c.requires) in
    let end : length c.loop-answer.yielded ≡ length names = ap (λ (xs : List (Result ProfileInput ViewError)). length xs) all ∙ (sym len ∙ c.requires) in
    finds_all named_profile (files names texts same) (length c.loop-answer.yielded) c.loop-answer.inputs
    (no_file names texts same (length c.loop-answer.yielded) (omega (arith, end))) (c.loop-answer.invariant.finds texts readings)
