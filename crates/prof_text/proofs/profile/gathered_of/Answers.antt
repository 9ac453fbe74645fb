use Rattle.std.proofs.Common.{◌≡◌, ◌+◌, ◌<◌, ℕ, List, [], ◌∷◌, ◌++◌, length, take, sym, ap, ◌∙◌, subst, arith}
use Rattle.std.proofs.lemmas.List.{take_more, map-append}
use Rattle.prof_view.specs.Profile.{ProfileRecord}
use Rattle.prof_text.specs.Merged.{key_of, of_key}
use Rattle.prof_text.specs.Record.{value_of, values_of}
use Rattle.prof_text.specs.Gathered.{Gathers, IsTallyAt, with_records, is_key}
use Rattle.indexmap.specs.IndexMap.{get_by}
use Rattle.prof_text.specs.declared.record.ProfRecord.{ProfRecord}
use Rattle.prof_text.proofs.GatherLemmas.{of_key_push}
use Rattle.prof_text.proofs.profile.gathered_of.Goals as goal

pub loop-record-preserved : goal.loop-record-preserved
loop-record-preserved c =
    let r : ProfRecord = c.record-item.result in
    let before : List ProfileRecord = values_of (take c.loop-record.record-index c.args.records.now) in
    let low : c.loop-record.record-index < length c.args.records.now = omega arith in
    let one_more : values_of (take (c.loop-record.record-index + 1) c.args.records.now) ≡ before ++ value_of r ∷ [] =
    ap values_of (take_more c.args.records.now c.loop-record.record-index r low)
    ∙ (map-append value_of (take c.loop-record.record-index c.args.records.now) _
    ∙ ap (λ (q : ProfRecord). before ++ value_of q ∷ []) (sym c.record-item.is)) in
    let put : Gathers c.put.new.self (with_records (λ key. of_key key before) (key_of (value_of r)) (value_of r ∷ [])) =
    subst (λ (name : List ℕ). Gathers c.put.new.self (with_records (λ key. of_key key before) (name, r.hash) (value_of r ∷ []))) c.as_slice.ensures
    (c.in_ok-put.ensures (λ key. of_key key before) (value_of r ∷ []) c.loop-record.invariant c.in_ok-tally.ensures) in
    λ key. subst (λ (rs : List ProfileRecord). IsTallyAt (get_by (is_key key) c.put.new.self.tallies) rs) (sym (ap (of_key key) one_more ∙ of_key_push before (value_of r) key)) (put key)
