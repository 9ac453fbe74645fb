use Rattle.std.proofs.Common.{◌≡◌, ◌<◌, Bool, Some, length, slice_get, sym, ap, ◌∙◌, rules, arith, below_more}
use Rattle.prof_view.specs.Profile.{ProfileInput}
use Rattle.prof_merge.specs.Inputs.{modes_of}
use Rattle.prof_merge.proofs.InputLemmas.{mode_at, all_modes}
use Rattle.prof_merge.proofs.header.first_other.Goals as goal

pub loop-i-preserved : goal.loop-i-preserved
loop-i-preserved c =
    let low : c.loop-i.i < length c.args.views.now = omega arith in
    let same : c.entry_first.result ≡ c.args.mode = search rules in
    below_more (λ k. slice_get (modes_of c.args.views.now) k ≡ Some c.args.mode) c.loop-i.i c.loop-i.invariant
    (mode_at c.args.views.now c.loop-i.i c.index-views-i.result low
    ∙ (ap (λ (v : ProfileInput). Some v.entry_first) (sym c.index-views-i.is) ∙ ap (λ (b : Bool). Some b) (sym c.entry_first.ensures ∙ same)))

pub returns-clause-none : goal.returns-clause-none
returns-clause-none c = all_modes c.args.views.now c.args.mode (λ k low. c.loop-i.invariant k (omega arith))
