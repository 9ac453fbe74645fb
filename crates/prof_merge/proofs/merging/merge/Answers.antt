use Rattle.std.proofs.Common.{◌≡◌, Bool, List, sym, subst}
use Rattle.std.proofs.lemmas.Result.{IfOk-weaker, IfErr-weaker}
use Rattle.prof_view.specs.Profile.{ProfileInput}
use Rattle.prof_text.specs.Merged.{IsMerged}
use Rattle.prof_text.specs.Mismatch.{IsMismatch}
use Rattle.prof_merge.specs.Inputs.{records_of, AllHaveMode, IsMergeOf, IsMergeRefusal}
use Rattle.prof_merge.specs.Parts.{GathersInputs}
use Rattle.prof_merge.proofs.InputLemmas.{none_case, refusal_of}
use Rattle.prof_merge.proofs.merging.merge.Goals as goal

pub returns-clause-merged : goal.returns-clause-merged
returns-clause-merged g c =
    let mode : AllHaveMode c.entry_first-first.result c.args.inputs.now =
    subst (AllHaveMode c.entry_first-first.result) c.views-views.ensures (none_case c.first_other.result _ c.in_default.is c.first_other.ensures.none) in
    let gathers : GathersInputs c.args.inputs.now c.in_ok-gathered.gathered =
    subst (λ (inputs : List ProfileInput). GathersInputs inputs c.in_ok-gathered.gathered) c.views-views.ensures c.in_ok-gathered.ensures in
    IfOk-weaker c.finish.result (λ p. (p.entry_first ≡ c.entry_first-first.result) × IsMerged (records_of c.args.inputs.now) p.records) (IsMergeOf c.args.inputs.now)
    (λ p h. record {
      mode = subst (λ (m : Bool). AllHaveMode m c.args.inputs.now) (sym h.0) mode;
      records = h.1;
    })
    (c.finish.ensures.merged (records_of c.args.inputs.now) gathers)

pub returns-clause-refused : goal.returns-clause-refused
returns-clause-refused g c =
    let mode : AllHaveMode c.entry_first-first.result c.args.inputs.now =
    subst (AllHaveMode c.entry_first-first.result) c.views-views.ensures (none_case c.first_other.result _ c.in_default.is c.first_other.ensures.none) in
    let gathers : GathersInputs c.args.inputs.now c.in_ok-gathered.gathered =
    subst (λ (inputs : List ProfileInput). GathersInputs inputs c.in_ok-gathered.gathered) c.views-views.ensures c.in_ok-gathered.ensures in
    IfErr-weaker c.finish.result (IsMismatch (records_of c.args.inputs.now)) (IsMergeRefusal c.args.inputs.now)
    (λ e h. refusal_of c.args.inputs.now c.entry_first-first.result e mode h)
    (c.finish.ensures.refused (records_of c.args.inputs.now) gathers)
