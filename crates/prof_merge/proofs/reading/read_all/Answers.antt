use Rattle.std.proofs.Common.{ℕ, Result, ap, ◌∙◌}
use Rattle.std.specs.Global.{Vec}
use Rattle.rayon.specs.Lists.{min_len_base}
use Rattle.rayon.proofs.ListFacts.{IfOk-then}
use Rattle.rayon.proofs.ToStd.{slice-AllZip}
use Rattle.prof_view.specs.Profile.{ProfileInput}
use Rattle.prof_view.specs.declared.error.ViewError.{ViewError}
use Rattle.prof_merge.specs.Reading.{IsReading}
use Rattle.prof_merge.proofs.reading.read_all.Goals as goal

pub returns : goal.returns
returns g c =
    let base = ap min_len_base c.map.ensures.base ∙ c.with_min_len.ensures.base in
    let slice = ap (λ it. it.slice.now) base ∙ c.par_iter.ensures in
    IfOk-then c.collect.result _ _ c.collect.ensures (λ v h.
    let chain = h.1 in
    rw h.2 (slice-AllZip chain.0 c.args.texts.now (chain.1 ∙ slice)
    (λ (text : Vec ℕ) (answer : Result ProfileInput ViewError). IsReading text.items answer) h.0 chain.2))
