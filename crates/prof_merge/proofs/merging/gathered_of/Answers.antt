use Rattle.std.proofs.Common.{◌<◌, List, IfOk, subst, rules}
use Rattle.rayon.specs.Lists.{chunks_of}
use Rattle.rayon.proofs.ToStd.{chunks_of-concat}
use Rattle.prof_view.specs.Profile.{ProfileInput}
use Rattle.prof_merge.specs.Parts.{GathersInputs}
use Rattle.prof_merge.proofs.merging.gathered_of.Goals as goal

pub returns : goal.returns
returns g c =
    let pos : 0 < c.div_ceil-size.result = search rules in
    subst (λ (inputs : List ProfileInput). IfOk c.joined.result (GathersInputs inputs)) (chunks_of-concat c.div_ceil-size.result c.args.views.now pos)
    (c.joined.ensures (chunks_of c.div_ceil-size.result c.args.views.now) c.in_ok-parts.ensures)
