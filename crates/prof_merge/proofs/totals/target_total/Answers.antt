use Rattle.std.proofs.Common.{◌≡◌, ◌+◌, ◌<◌, ◌++◌, ◌∷◌, [], List, length, take, min, sum_by, sym, ap, ◌∙◌, arith}
use Rattle.std.proofs.lemmas.List.{take_more, map-append}
use Rattle.prof_view.specs.Profile.{ProfileRecord}
use Rattle.prof_text.specs.Merged.{Target, most}
use Rattle.prof_text.specs.Record.{value_of, values_of}
use Rattle.prof_text.specs.declared.record.ProfRecord.{ProfRecord}
use Rattle.prof_merge.specs.Show.{total, target_count}
use Rattle.prof_merge.proofs.InputLemmas.{total_push}
use Rattle.prof_merge.proofs.totals.target_total.Goals as goal

pub loop-record-preserved : goal.loop-record-preserved
loop-record-preserved c =
    let r : ProfRecord = c.record-item.result in
    let before : List ProfileRecord = values_of (take c.loop-record.record-index c.args.records.now) in
    let low : c.loop-record.record-index < length c.args.records.now = omega arith in
    let one_more : values_of (take (c.loop-record.record-index + 1) c.args.records.now) ≡ before ++ value_of r ∷ [] =
    ap values_of (take_more c.args.records.now c.loop-record.record-index r low)
    ∙ (map-append value_of (take c.loop-record.record-index c.args.records.now) _
    ∙ ap (λ (q : ProfRecord). before ++ value_of q ∷ []) (sym c.record-item.is)) in
    c.targets_from-count.ensures
    ∙ (ap (λ (sites : List (List Target)). min (c.loop-record.count + sum_by (λ (site : List Target). length site) sites) most) c.as_slice.ensures
    ∙ (total_push target_count before (value_of r) c.loop-record.count c.loop-record.invariant
    ∙ ap (total target_count) (sym one_more)))
