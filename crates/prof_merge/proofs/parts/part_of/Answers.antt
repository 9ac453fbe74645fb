use Rattle.std.proofs.Common.{◌≡◌, ◌+◌, ◌<◌, ◌++◌, ◌∷◌, [], List, length, take, sym, ap, ◌∙◌, arith, append-nil}
use Rattle.std.proofs.lemmas.List.{take_more}
use Rattle.std.proofs.lemmas.List.Concat.{flat_map-append}
use Rattle.prof_view.specs.Profile.{ProfileRecord, ProfileInput}
use Rattle.prof_text.specs.Merged.{of_key}
use Rattle.prof_merge.specs.Inputs.{records_of}
use Rattle.prof_merge.proofs.InputLemmas.{same_gathers}
use Rattle.prof_merge.proofs.parts.part_of.Goals as goal

pub loop-view-preserved : goal.loop-view-preserved
loop-view-preserved c =
    let v : ProfileInput = c.view-item.result in
    let before : List ProfileInput = take c.loop-view.view-index c.args.run.now in
    let low : c.loop-view.view-index < length c.args.run.now = omega arith in
    let one_more : records_of (take (c.loop-view.view-index + 1) c.args.run.now) ≡ records_of before ++ v.records =
    ap records_of (take_more c.args.run.now c.loop-view.view-index v low)
    ∙ (ap (λ (w : ProfileInput). records_of (before ++ w ∷ [])) (sym c.view-item.is)
    ∙ (flat_map-append (λ (i : ProfileInput). i.records) before (v ∷ [])
    ∙ ap (λ (rs : List ProfileRecord). records_of before ++ rs) (append-nil v.records))) in
    same_gathers c.put_view.new.gathered (λ key. of_key key (records_of before ++ v.records)) (λ key. of_key key (records_of (take (c.loop-view.view-index + 1) c.args.run.now)))
    (λ key. sym (ap (of_key key) one_more)) (c.in_ok-put_view.ensures (records_of before) c.loop-view.invariant)
