use Rattle.std.proofs.Common.{◌≡◌, ◌+◌, List, [], ◌∷◌, ◌++◌, take, sym, ap, ◌∙◌}
use Rattle.prof_view.specs.Profile.{ProfileRecord}
use Rattle.prof_text.specs.Merged.{key_of, of_key}
use Rattle.prof_text.specs.Gathered.{with_records}
use Rattle.prof_merge.proofs.InputLemmas.{of_key_push, same_gathers, record_at}
use Rattle.prof_merge.proofs.parts.put_view.Goals as goal

pub loop-i-preserved : goal.loop-i-preserved
loop-i-preserved c before gathers =
    let r : ProfileRecord = c.at.result in
    let sofar : List ProfileRecord = before ++ take c.loop-i.i c.args.view.now.records in
    let one_more : before ++ take (c.loop-i.i + 1) c.args.view.now.records ≡ sofar ++ r ∷ [] = record_at before c.args.view.now.records c.loop-i.i r c.at.ensures in
    same_gathers c.put_record.new.gathered (with_records (λ key. of_key key sofar) (key_of r) (r ∷ [])) (λ key. of_key key (before ++ take (c.loop-i.i + 1) c.args.view.now.records))
    (λ key. sym (ap (of_key key) one_more ∙ of_key_push sofar r key))
    (c.in_ok-put_record.ensures (λ key. of_key key sofar) (c.loop-i.invariant before gathers))
