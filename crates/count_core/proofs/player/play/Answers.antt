use Rattle.std.proofs.Common.{◌≡◌, ◌∙◌, sym, ap, true, subst, rules, sum_by}
use Rattle.count_core.specs.CoreView.{shares_of}
use Rattle.count_core.specs.declared.state.CoreState.{CoreState}
use Rattle.count_core.specs.Play.{IsReady, can_play}
use Rattle.count_core.proofs.Ready.{always_fits, ready_after, shares_after}
use Rattle.count_core.proofs.player.play.Goals as goal

pub is_playable-requires-clause-sums : goal.is_playable-requires-clause-sums
is_playable-requires-clause-sums c = always_fits c.args.state.now c.requires

pub returns-in-Ok-clause-ready : goal.returns-in-Ok-clause-ready
returns-in-Ok-clause-ready c =
    let playable : can_play c.args.state.now c.args.step.now ≡ true = search rules in
    subst IsReady (sym c.in-Ok.ensures.ok) (ready_after c.args.state.now c.args.step.now c.requires playable)

pub returns-in-Ok-clause-shares : goal.returns-in-Ok-clause-shares
returns-in-Ok-clause-shares c =
    let playable : can_play c.args.state.now c.args.step.now ≡ true = search rules in
    ap (λ (s : CoreState). sum_by shares_of s.views) c.in-Ok.ensures.ok ∙ shares_after c.args.state.now c.args.step.now c.requires playable
